-- What one UPDATE more does to the routes that UPDATEs leave.
use Rattle.std.proofs.Common.{◌≡◌, ◌∙◌, ℕ, List, [], ◌∷◌, ◌++◌, None, refl, ap, sym, append-nil}
use Rattle.std.specs.Prelude.{fold, flat_map}
use Rattle.std.proofs.lemmas.Grind.{fold-append, flat_map-append}
use Rattle.bgp_wire.specs.declared.open.Encoding.{Encoding}
use Rattle.bgp_wire.specs.Message.{AreBytes, IsMessage, Message, message_bytes, Messages, messages, messages_in}
use Rattle.bgp_wire.proofs.Stream.{goes_on, message_written}
use Rattle.update_codec.specs.declared.update.Update.{Update}
use Rattle.attr_model.specs.Routes.{RouteTable}
use Rattle.update_codec.specs.Held.{with_update, held, updates_in, told_from, told}

pub held_more : (updates : List Update) (update : Update) → held (updates ++ update ∷ []) ≡ with_update (held updates) update
held_more updates update = fold-append with_update [] updates (update ∷ [])

told_on : (enc : Encoding) (routes : RouteTable) (xs ys : List Message) → told_from enc routes (xs ++ ys) ≡ told_from enc (told_from enc routes xs) ys
told_on enc routes xs ys = ap (fold with_update routes) (flat_map-append (updates_in enc) xs ys) ∙ fold-append with_update routes (flat_map (updates_in enc) xs) (flat_map (updates_in enc) ys)

pub told_more : (enc : Encoding) (bytes more : List ℕ) → AreBytes bytes → (messages bytes).fault ≡ None → told enc (bytes ++ more) ≡ told_from enc (told enc bytes) (messages ((messages bytes).rest ++ more)).whole
unfolding told
told_more enc bytes more are none =
    ap (λ (ms : Messages). told_from enc [] ms.whole) (goes_on bytes more are none) ∙ told_on enc [] (messages bytes).whole (messages ((messages bytes).rest ++ more)).whole

-- a message alone
nothing_whole : (messages []).whole ≡ []
unfolding messages messages_in
nothing_whole = refl

one_whole : (m : Message) → IsMessage m → (messages (message_bytes m)).whole ≡ m ∷ []
one_whole m is =
    ap (λ (b : List ℕ). (messages b).whole) (sym (append-nil (message_bytes m)))
    ∙ ap (λ (ms : Messages). ms.whole) (message_written m [] is)
    ∙ ap (λ (ms : List Message). m ∷ ms) nothing_whole

pub told_message : (enc : Encoding) (bytes : List ℕ) (m : Message) → AreBytes bytes → (messages bytes).fault ≡ None → (messages bytes).rest ≡ [] → IsMessage m
    → told enc (bytes ++ message_bytes m) ≡ fold with_update (told enc bytes) (updates_in enc m)
told_message enc bytes m are none end is =
    told_more enc bytes (message_bytes m) are none
    ∙ ap (λ (rest : List ℕ). told_from enc (told enc bytes) (messages (rest ++ message_bytes m)).whole) end
    ∙ ap (told_from enc (told enc bytes)) (one_whole m is)
    ∙ ap (fold with_update (told enc bytes)) (append-nil (updates_in enc m))

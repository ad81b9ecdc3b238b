-- Routes that valid UPDATEs leave have valid attributes.
use Rattle.std.proofs.Common.{ℕ, zero, suc, Bool, true, false, cond, List, [], ◌∷◌, length, flat_map, take, drop, Result, Ok, Err}
use Rattle.std.specs.Prelude.{IfOk, ◌==◌}
use Rattle.std.specs.List.{AllByRecursion}
use Rattle.net_base.specs.declared.prefix.Prefix.{Prefix}
use Rattle.bgp_wire.specs.declared.front.Cut.{Cut}
use Rattle.bgp_wire.specs.declared.front.Cut.TheVariants as cuts
use Rattle.bgp_wire.specs.declared.open.Encoding.{Encoding}
use Rattle.bgp_wire.specs.Message.{AreBytes, Message, Messages, cut_of, messages_by, messages_in, messages}
use Rattle.attr_model.specs.declared.attrs.Attrs.{Attrs}
use Rattle.attr_model.specs.Valid.{IsValid}
use Rattle.attr_codec.proofs.Appends.{all_append}
use Rattle.attr_codec.proofs.Bytes.{bytes_behind, bytes_front}
use Rattle.update_codec.specs.declared.update.Update.{Update}
use Rattle.update_codec.specs.Update.{update_says}
use Rattle.update_codec.specs.Held.{held, read_ones, updates_in, told}
use Rattle.update_codec.specs.Valid.{HasValid, AnnouncesValid, HaveValid}
use Rattle.update_codec.proofs.HeldEach.{Announces, held_each}
use Rattle.update_codec.proofs.ReadValid.{says_valid}

-- ---- UPDATEs

abbrev IsValidFor : Attrs → Prefix → Type 0
IsValidFor attrs prefix = IsValid attrs

each_valid : (attrs : Attrs) (prefixes : List Prefix) → IsValid attrs → AllByRecursion (IsValidFor attrs) prefixes
each_valid attrs [] is = tt
each_valid attrs (prefix ∷ prefixes) is = (is, each_valid attrs prefixes is)

groups_valid : (groups : List (Attrs × List Prefix)) → AllByRecursion HasValid groups → AllByRecursion (λ (group : Attrs × List Prefix). AllByRecursion (IsValidFor group.0) group.1) groups
groups_valid [] are = tt
groups_valid (group ∷ groups) are = (each_valid group.0 group.1 are.0, groups_valid groups are.1)

announce_valid : (updates : List Update) → AllByRecursion AnnouncesValid updates → AllByRecursion (Announces IsValidFor) updates
announce_valid [] are = tt
announce_valid (update ∷ updates) are = (groups_valid update.announced are.0, announce_valid updates are.1)

pub held_valid : (updates : List Update) → AllByRecursion AnnouncesValid updates → HaveValid (held updates)
held_valid updates are = held_each IsValidFor updates (announce_valid updates are)

-- ---- the bytes of a connection

-- each body is made of bytes
abbrev HaveBodies : List Message → Type 0
HaveBodies whole = AllByRecursion (λ (message : Message). AreBytes message.body) whole

bodies_by : (bytes : List ℕ) (next : List ℕ → Messages) (c : Cut) → AreBytes bytes → ((more : List ℕ) → AreBytes more → HaveBodies (next more).whole) → HaveBodies (messages_by next c bytes).whole
bodies_by bytes next cuts.More are others = tt
bodies_by bytes next (cuts.Message kind size) are others = (bytes_behind 19 (take size bytes) (bytes_front size bytes are), others (drop size bytes) (bytes_behind size bytes are))
bodies_by bytes next (cuts.Notify fault) are others = tt

bodies_in : (n : ℕ) (bytes : List ℕ) → AreBytes bytes → HaveBodies (messages_in n bytes).whole
unfolding messages_in
bodies_in zero bytes are = tt
bodies_in (suc n) bytes are = bodies_by bytes (messages_in n) (cut_of bytes) are (λ more m. bodies_in n more m)

bodies_are : (bytes : List ℕ) → AreBytes bytes → HaveBodies (messages bytes).whole
unfolding messages
bodies_are bytes are = bodies_in (length bytes) bytes are

ones_valid : (said : Result Update ℕ) → IfOk said AnnouncesValid → AllByRecursion AnnouncesValid (read_ones said)
ones_valid (Ok update) valid = (valid, tt)
ones_valid (Err sub) valid = tt

updates_valid : (enc : Encoding) (message : Message) → AreBytes message.body → AllByRecursion AnnouncesValid (updates_in enc message)
unfolding updates_in
updates_valid enc message are = by (message.kind == 2)
  where
    by : (b : Bool) → AllByRecursion AnnouncesValid (cond b (read_ones (update_says enc message.body)) [])
    by true = ones_valid (update_says enc message.body) (says_valid enc message.body are)
    by false = tt

all_valid : (enc : Encoding) (whole : List Message) → HaveBodies whole → AllByRecursion AnnouncesValid (flat_map (updates_in enc) whole)
all_valid enc [] are = tt
all_valid enc (message ∷ whole) are = all_append AnnouncesValid (updates_in enc message) (flat_map (updates_in enc) whole) (updates_valid enc message are.0) (all_valid enc whole are.1)

pub told_valid : (enc : Encoding) (bytes : List ℕ) → AreBytes bytes → HaveValid (told enc bytes)
unfolding told
told_valid enc bytes are = held_valid (flat_map (updates_in enc) (messages bytes).whole) (all_valid enc (messages bytes).whole (bodies_are bytes are))

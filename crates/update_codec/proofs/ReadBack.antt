-- The peer reads an UPDATE that was written as what was sent.
use Rattle.std.proofs.Common.{◌≡◌, ◌≢◌, ◌∙◌, ℕ, ◌+◌, ◌^◌, ◌<◌, ◌≤◌, Bool, true, false, not, List, Option, [], ◌∷◌, ◌++◌, length, Some, None, Ok, refl, ap, sym, subst, arith, append_assoc, append-nil, length-append, lit<}
use Rattle.std.specs.Prelude.{nat_lt, IsTrue, is_some}
use Rattle.std.specs.List.{AllByRecursion}
use Rattle.std.proofs.lemmas.Bool.Decides.{nat_tests}
use Rattle.byteorder.specs.Endian.{big_bytes}
use Rattle.wire_buf.specs.Written.{bytes_at-written, number_at-written}
use Rattle.net_base.specs.declared.addr.Family.{Family}
use Rattle.net_base.specs.declared.addr.Family.TheVariants.{V4, V6}
use Rattle.net_base.specs.declared.addr.Addr.{Addr}
use Rattle.net_base.specs.declared.prefix.Prefix.{Prefix}
use Rattle.bgp_wire.specs.declared.open.Encoding.{Encoding}
use Rattle.attr_model.specs.declared.attrs.Attrs.{Attrs}
use Rattle.attr_codec.specs.declared.outcome.ReadAttrs.{ReadAttrs}
use Rattle.attr_codec.specs.Prefixes.{IsOf, prefixes_of, prefixes_bytes}
use Rattle.attr_codec.specs.Read.{field_says}
use Rattle.attr_codec.specs.Width.{HaveWidth}
use Rattle.attr_codec.specs.Written.{header_bytes, row_bytes, attrs_bytes, unreach_row, reach_row}
use Rattle.attr_codec.specs.ReadBack.{IsSent, next_hop_sent, sent, unsent, nothing_said, reach_bytes}
use Rattle.attr_codec.proofs.PrefixesBack.{prefixes_back}
use Rattle.attr_codec.proofs.FieldSays.{plain_back, reach_back, unreach_back, nothing_back}
use Rattle.attr_codec.proofs.Shorts.{short_values}
use Rattle.update_codec.specs.declared.out_update.OutUpdate.{OutUpdate}
use Rattle.update_codec.specs.declared.out_update.OutUpdate.TheVariants.{Withdraw, Announce}
use Rattle.update_codec.specs.Update.{field_at, withdrawn_at, agreed, group, has_hop, update_of, update_says}
use Rattle.update_codec.specs.Written.{family_of, sized, withdraw_body, announce_body, update_body, update_message, read_by_peer, is_agreed, MayBeSent, IsWritable, FitsSize, HasWidth}
use Rattle.update_codec.proofs.Bytes.{size_is, body_is}

-- a field behind its length is read again
field_back : (field rest : List ℕ) → length field < 256 ^ 2 → field_at (sized field ++ rest) ≡ Some (field, rest)
field_back field rest h =
    let whole : sized field ++ rest ≡ big_bytes 2 (length field) ++ (field ++ rest) = append_assoc (big_bytes 2 (length field)) field rest in
    ap field_at whole ∙ rw (number_at-written 2 (length field) (field ++ rest) h, bytes_at-written (length field) field rest refl) refl

says_by : (enc : Encoding) (body withdrawn rest attributes plain : List ℕ) (ws ps : List Prefix) (said : ReadAttrs) → withdrawn_at body ≡ Some (withdrawn, rest) → prefixes_of V4 withdrawn ≡ Some ws → field_at rest ≡ Some (attributes, plain)
    → field_says enc attributes ≡ Ok said → prefixes_of V4 plain ≡ Some ps → update_says enc body ≡ Ok (update_of enc ws said ps)
unfolding update_says
says_by enc body withdrawn rest attributes plain ws ps said a b c d e = rw (a, b, c, d, e) refl

no_prefixes : prefixes_of V4 [] ≡ Some []
no_prefixes = prefixes_back V4 [] tt

agreed_none : (b : Bool) → agreed b [] ≡ []
agreed_none true = refl
agreed_none false = refl

-- nothing is withdrawn in the field of withdrawn routes
no_withdrawn : (rest : List ℕ) → 2 ≤ length rest → withdrawn_at ((0 ∷ 0 ∷ []) ++ rest) ≡ Some ([], rest)
no_withdrawn rest h =
    let front : field_at ((0 ∷ 0 ∷ []) ++ rest) ≡ Some ([], rest) = field_back [] rest (lit< tt) in
    let long : nat_lt (length rest) 2 ≡ false = grind (arith, nat_tests) in
    rw (front, long) refl

withdraw_v4 : (enc : Encoding) (ps : List Prefix) → AllByRecursion (IsOf V4) ps → enc.v4 ≡ true → length (prefixes_bytes ps) < 256 ^ 2 → update_says enc (withdraw_body V4 ps) ≡ Ok (record { withdrawn = ps; announced = [] })
withdraw_v4 enc ps each v4 h =
    let front : withdrawn_at (withdraw_body V4 ps) ≡ Some (prefixes_bytes ps, 0 ∷ 0 ∷ []) = rw (field_back (prefixes_bytes ps) (0 ∷ 0 ∷ []) h) refl in
    let empty : field_at (0 ∷ 0 ∷ []) ≡ Some ([], []) = field_back [] [] (lit< tt) in
    says_by enc (withdraw_body V4 ps) (prefixes_bytes ps) (0 ∷ 0 ∷ []) [] [] ps [] nothing_said front (prefixes_back V4 ps each) empty (nothing_back enc) no_prefixes
    ∙ ap (λ (b : Bool). Ok (record { withdrawn = ((agreed b ps ++ []) ++ agreed b []) ++ []; announced = [] })) v4
    ∙ rw (append-nil ps, append-nil ps, append-nil ps) refl

withdraw_v6 : (enc : Encoding) (ps : List Prefix) → AllByRecursion (IsOf V6) ps → enc.v6 ≡ true → 3 + length (prefixes_bytes ps) ≤ 65535 → length (row_bytes (unreach_row ps)) < 256 ^ 2 → update_says enc (withdraw_body V6 ps) ≡ Ok (record { withdrawn = ps; announced = [] })
withdraw_v6 enc ps each v6 short h =
    let field = row_bytes (unreach_row ps) in
    let front = no_withdrawn (sized field) (omega arith) in
    let attributes : field_at (sized field) ≡ Some (field, []) = ap field_at (sym (append-nil (sized field))) ∙ field_back field [] h in
    says_by enc (withdraw_body V6 ps) [] (sized field) field [] [] [] (unsent ps) front no_prefixes attributes (unreach_back enc ps v6 each short) no_prefixes
    ∙ rw (agreed_none enc.v4, append-nil ps, append-nil ps) refl

some_group : (attrs : Attrs) (ps : List Prefix) → ps ≢ [] → group attrs ps ≡ (attrs, ps) ∷ []
some_group attrs [] some = absurd (some refl)
some_group attrs (p ∷ ps) some = refl

hop_there : (ps : List Prefix) (hop : Addr) → has_hop ps (Some hop) ≡ true
hop_there [] hop = refl
hop_there (p ∷ ps) hop = refl

announce_v4 : (enc : Encoding) (attrs : Attrs) (ps : List Prefix) → IsSent enc attrs → attrs.hop.family ≡ V4 → ps ≢ [] → AllByRecursion (IsOf V4) ps → enc.v4 ≡ true → length (attrs_bytes enc attrs) < 256 ^ 2
    → update_says enc (announce_body enc attrs V4 ps) ≡ Ok (read_by_peer (Announce attrs ps))
announce_v4 enc attrs ps is e some each v4 h =
    let field = attrs_bytes enc attrs in
    let front = no_withdrawn (sized field ++ prefixes_bytes ps) (omega arith) in
    let attributes = field_back field (prefixes_bytes ps) h in
    let hop : next_hop_sent attrs.hop attrs.hop.family ≡ Some attrs.hop = ap (next_hop_sent attrs.hop) e in
    says_by enc (announce_body enc attrs V4 ps) [] (sized field ++ prefixes_bytes ps) field (prefixes_bytes ps) [] ps (sent attrs None) front no_prefixes attributes (plain_back enc attrs is e) (prefixes_back V4 ps each)
    ∙ rw (v4, hop, hop_there ps attrs.hop, some_group attrs ps some) refl

announce_v6 : (enc : Encoding) (attrs : Attrs) (ps : List Prefix) → IsSent enc attrs → attrs.hop.family ≡ V6 → ps ≢ [] → AllByRecursion (IsOf V6) ps → enc.v6 ≡ true → 21 + length (prefixes_bytes ps) ≤ 65535 → length (reach_bytes enc attrs ps) < 256 ^ 2
    → update_says enc (announce_body enc attrs V6 ps) ≡ Ok (read_by_peer (Announce attrs ps))
announce_v6 enc attrs ps is e some each v6 short h =
    let field = reach_bytes enc attrs ps in
    let front = no_withdrawn (sized field) (omega arith) in
    let attributes : field_at (sized field) ≡ Some (field, []) = ap field_at (sym (append-nil (sized field))) ∙ field_back field [] h in
    says_by enc (announce_body enc attrs V6 ps) [] (sized field) field [] [] [] (sent attrs (Some (V6, attrs.hop, ps))) front no_prefixes attributes (reach_back enc attrs ps is e v6 each short) no_prefixes
    ∙ rw (agreed_none enc.v4, some_group attrs ps some) refl

-- ---- each UPDATE

dropped : (o : Option ℕ) → is_some o ≡ false → o ≡ None
dropped None e = refl
dropped (Some n) e = absurd cc

withdraw_back : (enc : Encoding) (ps : List Prefix) (family : Family) → AllByRecursion (IsOf family) ps → IsTrue (is_agreed enc family) → 19 + length (withdraw_body family ps) ≤ 4096 → update_says enc (withdraw_body family ps) ≡ Ok (record { withdrawn = ps; announced = [] })
withdraw_back enc ps V4 each v4 h =
    let l = length-append (prefixes_bytes ps) (0 ∷ 0 ∷ []) in
    withdraw_v4 enc ps each v4 (omega arith)
withdraw_back enc ps V6 each v6 h =
    let size = length-append (header_bytes 128 15 (length ((0 ∷ 2 ∷ 1 ∷ []) ++ prefixes_bytes ps))) ((0 ∷ 2 ∷ 1 ∷ []) ++ prefixes_bytes ps) in
    withdraw_v6 enc ps each v6 (omega arith) (omega arith)

announce_back : (enc : Encoding) (attrs : Attrs) (ps : List Prefix) (family : Family) → attrs.hop.family ≡ family → HaveWidth attrs → MayBeSent enc attrs → ps ≢ [] → AllByRecursion (IsOf family) ps → IsTrue (is_agreed enc family)
    → 19 + length (announce_body enc attrs family ps) ≤ 4096 → update_says enc (announce_body enc attrs family ps) ≡ Ok (read_by_peer (Announce attrs ps))
announce_back enc attrs ps V4 e width may some each v4 h =
    let l = length-append (attrs_bytes enc attrs) (prefixes_bytes ps) in
    let short : length (attrs_bytes enc attrs) ≤ 65535 = omega arith in
    let is : IsSent enc attrs = record { valid = may.valid; short = short_values enc attrs may.valid.unknown_types short; width = width; weight = may.weight; local_pref = λ e. dropped attrs.local_pref (may.local_pref ∙ ap not e) } in
    announce_v4 enc attrs ps is e some each v4 (omega arith)
announce_back enc attrs ps V6 e width may some each v6 h =
    let l = length-append (row_bytes (reach_row attrs.hop.bits ps)) (attrs_bytes enc attrs) in
    let value = ((0 ∷ 2 ∷ 1 ∷ 16 ∷ []) ++ big_bytes 16 attrs.hop.bits) ++ ((0 ∷ []) ++ prefixes_bytes ps) in
    let size = length-append (header_bytes 128 14 (length value)) value in
    let short : length (attrs_bytes enc attrs) ≤ 65535 = omega arith in
    let is : IsSent enc attrs = record { valid = may.valid; short = short_values enc attrs may.valid.unknown_types short; width = width; weight = may.weight; local_pref = λ e. dropped attrs.local_pref (may.local_pref ∙ ap not e) } in
    announce_v6 enc attrs ps is e some each v6 (omega arith) (omega arith)

back : (enc : Encoding) (update : OutUpdate) → IsWritable enc update → 19 + length (update_body enc update) ≤ 4096 → HasWidth update → update_says enc (update_body enc update) ≡ Ok (read_by_peer update)
back enc (Withdraw ps) may fits width = withdraw_back enc ps (family_of ps) may.each may.agreed fits
back enc (Announce attrs ps) may fits width = announce_back enc attrs ps attrs.hop.family refl width may.1 may.0.some may.0.each may.0.agreed fits

-- what was written for an update that fits is read as that update
pub read_back : (enc : Encoding) (update : OutUpdate) → IsWritable enc update → FitsSize enc update → HasWidth update → update_says enc (update_message enc update).body ≡ Ok (read_by_peer update)
read_back enc update may fits width =
    let body = body_is enc update in
    let size : 19 + length (update_body enc update) ≤ 4096 = subst (λ (b : List ℕ). 19 + length b ≤ 4096) body (subst (λ (n : ℕ). n ≤ 4096) (sym (size_is enc update)) fits) in
    ap (update_says enc) body ∙ back enc update may size width

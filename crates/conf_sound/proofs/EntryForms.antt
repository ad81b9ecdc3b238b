-- Values that may be left out, and the entries of sets, are read in form.
use Rattle.std.proofs.Common.{List, codes, Some, None, Ok, arith}
use Rattle.net_base.specs.declared.conf.Counted.TheVariants as counted
use Rattle.net_base.specs.declared.prefix.Prefix.{Prefix}
use Rattle.conf_tree.specs.declared.token.Token.{Token}
use Rattle.conf_tree.specs.Faults.{◌>>=◌}
use Rattle.conf_tree.specs.Reading.{Reading, behind, word_is}
use Rattle.conf_tree.specs.Values.{width}
use Rattle.conf_tree.specs.StatementReading.{optional_table_at, optional_port_at, entry_at, prefix_entry_at, number_entry_at, optional_maxlen_at, source_at, authorization_at, counted_authorization_at, roa_entry_at, named_brace_at}
use Rattle.conf_tree.specs.Readable.{IfThere, IsName, IsWithin, IsRange, IsRoa, IsAs, IsLength}
use Rattle.conf_sound.proofs.Finds.{AreGood, Finds, ok, bind, bind_rest, either, good_behind, reading}
use Rattle.conf_sound.proofs.ReadingForms.{IsMember, ReadsMembers, unless_full_form, keyword_form, mark_form}
use Rattle.conf_sound.proofs.ValueForms.{number_form, as_number_form, prefix_form, own_length, name_form}
use Rattle.conf_sound.proofs.RuleForms.{ranged_form, counted_number_form}

-- ---- values that may be left out

pub optional_table_form : (tokens : List Token) → AreGood tokens → Finds (IfThere (IsWithin 1 255)) (optional_table_at tokens)
unfolding optional_table_at
optional_table_form tokens g =
    either (word_is (codes "rtable") tokens) (_ >>= λ table. Ok (Some table.0, table.1)) (Ok (None, tokens))
    (λ e. bind _ _ (number_form 1 255 (behind tokens) (good_behind tokens g)) (λ table h rest. ok _ _ h rest)) (λ e. ok _ _ tt g)

pub optional_port_form : (tokens : List Token) → AreGood tokens → Finds (IsWithin 1 65535) (optional_port_at tokens)
unfolding optional_port_at
optional_port_form tokens g =
    let usual : IsWithin 1 65535 179 = record { least = omega arith; most = omega arith } in
    search (reading, number_form 1 65535, usual, g)

-- ---- sets

entry_form : {A : Type 0} (Is : A → Type 0) (tokens : List Token) (found : Reading A) → Finds Is found → Finds Is (entry_at tokens found)
unfolding entry_at
entry_form Is tokens found h = search (reading, h)

pub prefix_entry_form : ReadsMembers IsRange prefix_entry_at
unfolding prefix_entry_at
prefix_entry_form full tokens g = entry_form (IsMember IsRange full) tokens _ (ranged_form full counted.Entries tokens g)

pub number_entry_form : ReadsMembers IsAs number_entry_at
unfolding number_entry_at
number_entry_form full tokens g = entry_form (IsMember IsAs full) tokens _ (counted_number_form 1 full counted.Entries tokens g)

optional_maxlen_form : (p : Prefix) (tokens : List Token) → AreGood tokens → Finds (IsLength p) (optional_maxlen_at p tokens)
unfolding optional_maxlen_at
optional_maxlen_form p tokens g = search (reading, number_form p.len (width p), own_length p, g)

source_form : (tokens : List Token) → AreGood tokens → Finds (IsWithin 0 4294967295) (source_at tokens)
unfolding source_at
source_form tokens g = entry_form (IsWithin 0 4294967295) tokens _ (bind_rest _ _ (keyword_form (codes "source-as") tokens g) (λ rest left. as_number_form 0 rest left))

authorization_form : (p : Prefix) (tokens : List Token) → AreGood tokens → Finds IsRoa (authorization_at p tokens)
unfolding authorization_at
authorization_form p tokens g = bind _ _ (optional_maxlen_form p tokens g) (λ maxlen h rest. bind _ _ (source_form maxlen.1 rest) (λ source k left. ok _ _ (h, k) left))

counted_authorization_form : ReadsMembers IsRoa counted_authorization_at
unfolding counted_authorization_at
counted_authorization_form full tokens g =
    bind _ _ (prefix_form tokens g) (λ p u rest. unless_full_form IsRoa full counted.Entries tokens (authorization_at p.0 p.1) (authorization_form p.0 p.1 rest))

pub roa_entry_form : ReadsMembers IsRoa roa_entry_at
unfolding roa_entry_at
roa_entry_form full tokens g = entry_form (IsMember IsRoa full) tokens _ (counted_authorization_form full tokens g)

pub named_brace_form : (tokens : List Token) → AreGood tokens → Finds IsName (named_brace_at tokens)
unfolding named_brace_at
named_brace_form tokens g = bind _ _ (name_form tokens g) (λ name h rest. bind_rest _ _ (mark_form (codes "{") name.1 rest) (λ inside left. ok _ _ h left))

-- The rules of a configuration that has passed its checks name sets that there are.
use Rattle.std.proofs.Common.{List, [], ◌∷◌}
use Rattle.std.specs.List.{All}
use Rattle.std.proofs.lemmas.List.Elements.{All-nil, All-cons}
use Rattle.conf_tree.specs.declared.conf.Conf.{Conf}
use Rattle.conf_tree.specs.declared.rule.Condition.{Condition}
use Rattle.conf_tree.specs.declared.rule.Condition.TheVariants as asks
use Rattle.conf_tree.specs.Readable.{Each}
use Rattle.conf_tree.specs.Settled.{IsKnownCondition, IsSettled}
use Rattle.filter_engine.specs.Named.{AreNamed, IsNamed}

each_all : {A : Type 0} (P Q : A → Type 0) → ((x : A) → P x → Q x) → (xs : List A) → Each P xs → All Q xs
each_all P Q more [] each = All-nil Q
each_all P Q more (x ∷ xs) each = All-cons Q x xs (more x each.0) (each_all P Q more xs each.1)

known_named : (conf : Conf) (condition : Condition) → IsKnownCondition conf condition → IsNamed conf condition
known_named conf (asks.Prefix range) known = tt
known_named conf (asks.PrefixSet set) known = known.0
known_named conf (asks.PrefixSetOrLonger set) known = known.0
known_named conf (asks.PathNumber place asn) known = tt
known_named conf (asks.PathSet place set) known = known.0
known_named conf (asks.OriginSet set) known = known.0
known_named conf (asks.Ovs wanted) known = tt
known_named conf (asks.Community pattern) known = tt
known_named conf (asks.LargeCommunity pattern) known = tt
known_named conf (asks.MaxAsLen most) known = tt
known_named conf (asks.NextHop address) known = tt
known_named conf (asks.Family family) known = tt

pub settled_named : (conf : Conf) → IsSettled conf → AreNamed conf conf.rules
settled_named conf settled =
    each_all _ (λ rule. All (IsNamed conf) rule.conditions) (λ rule known. each_all (IsKnownCondition conf) (IsNamed conf) (known_named conf) rule.conditions known.1) conf.rules settled.rules

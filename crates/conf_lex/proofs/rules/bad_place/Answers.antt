use Rattle.std.proofs.Common.{◌≡◌, sym, ℕ, Bool, true, false, cond, refl}
use Rattle.std.proofs.lemmas.Str.{utf8_valid_len-IsUtf8}
use Rattle.conf_lex.proofs.rules.bad_place.Goals as goal

either : (b : Bool) (n m : ℕ) → m ≡ n → n ≡ cond b n m
either true n m e = refl
either false n m e = sym e

pub returns-in-Ok : goal.returns-in-Ok
returns-in-Ok c = either _ _ _ (utf8_valid_len-IsUtf8 c.args.text.now c.in-Ok.ensures.cases.1)

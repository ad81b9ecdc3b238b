-- A line without macros gives itself.
use Rattle.std.proofs.Common.{◌≡◌, ◌∙◌, ℕ, Bool, true, false, cond, List, [], ◌∷◌, ◌++◌, Option, Some, None, Result, Ok, is_some, ◌&&◌, ◌||◌, refl, ap}
use Rattle.std.specs.List.{list_any}
use Rattle.std.specs.Option.{option_map_or}
use Rattle.net_base.specs.declared.conf.ConfFault.{ConfFault}
use Rattle.conf_tree.specs.declared.token.Token.{Token}
use Rattle.conf_tree.specs.Faults.{◌>>=◌}
use Rattle.conf_tree.specs.Kinds.{is_word}
use Rattle.conf_tree.specs.Macros.{Macros, Expanded, asked, given_for, unchanged, replaced, expanded}
use Rattle.conf_lex.specs.Asking.{asks_for_macro}

stays_by : (macros : Macros) (size : ℕ) (token : Token) (word : Bool) (ask : Option (List ℕ × List ℕ)) → (word && is_some ask) ≡ false → cond word (option_map_or (given_for macros size token) ask (Ok (unchanged size token))) (Ok (unchanged size token)) ≡ Ok (unchanged size token)
stays_by macros size token false ask e = refl
stays_by macros size token true None e = refl
stays_by macros size token true (Some a) e = absurd (cc)

stays : (macros : Macros) (size : ℕ) (token : Token) → asks_for_macro token ≡ false → replaced macros size token ≡ Ok (unchanged size token)
unfolding replaced
stays macros size token e = stays_by macros size token (is_word token.kind) (asked token.text) e

neither : (a b : Bool) → (a || b) ≡ false → (a ≡ false) × (b ≡ false)
neither true b e = absurd (cc)
neither false b e = (refl, e)

pub no_macro_asked : (macros : Macros) (size : ℕ) (line : List Token) → list_any asks_for_macro line ≡ false → expanded macros size line ≡ Ok (record { tokens = line; size = size })
no_macro_asked macros size [] e = refl
no_macro_asked macros size (token ∷ line) e =
    let both = neither (asks_for_macro token) (list_any asks_for_macro line) e in
    ap (λ (here : Result Expanded ConfFault). here >>= (λ h. expanded macros h.size line >>= (λ more. Ok (record { tokens = h.tokens ++ more.tokens; size = more.size })))) (stays macros size token both.0)
    ∙ ap (λ (rest : Result Expanded ConfFault). rest >>= (λ more. Ok (record { tokens = token ∷ more.tokens; size = more.size }))) (no_macro_asked macros size line both.1)

-- What is found, and the longest run, over two lists of commands put behind one another.
use Rattle.std.proofs.Common.{◌≡◌, ℕ, List, [], ◌∷◌, ◌++◌, Option, None, Some, if◌then◌else◌, refl, ap, ◌∙◌}
use Rattle.std.specs.Option.{option_or}
use Rattle.core_msgs.specs.declared.control.CtlCommand.{CtlCommand}
use Rattle.ctl_show.specs.Commands.{Form, found, is_of, show_forms, rib_forms, fib_forms, neighbour_forms, forms}

or_assoc : {A : Type 0} (a b c : Option A) → option_or a (option_or b c) ≡ option_or (option_or a b) c
or_assoc None b c = refl
or_assoc (Some x) b c = refl

found-append : (front back : List Form) (words : List (List ℕ)) → found (front ++ back) words ≡ option_or (found front words) (found back words)
found-append [] back words = refl
found-append (f ∷ front) back words =
    ap (option_or (if is_of f.pieces words then f.says words else None)) (found-append front back words)
    ∙ or_assoc (if is_of f.pieces words then f.says words else None) (found front words) (found back words)

-- the four kinds of commands, one after the other
in_turn : (words : List (List ℕ)) → found forms words
    ≡ option_or (option_or (option_or (found show_forms words) (found rib_forms words)) (found fib_forms words)) (found neighbour_forms words)
in_turn words =
    found-append ((show_forms ++ rib_forms) ++ fib_forms) neighbour_forms words
    ∙ ap (λ o. option_or o (found neighbour_forms words)) (found-append (show_forms ++ rib_forms) fib_forms words
    ∙ ap (λ o. option_or o (found fib_forms words)) (found-append show_forms rib_forms words))

pub found_show : (words : List (List ℕ)) (c : CtlCommand) → Some c ≡ found show_forms words → Some c ≡ found forms words
found_show words c show = rw (in_turn words, ← show) refl

pub found_rib : (words : List (List ℕ)) (c : CtlCommand) → None ≡ found show_forms words → Some c ≡ found rib_forms words → Some c ≡ found forms words
found_rib words c show rib = rw (in_turn words, ← show, ← rib) refl

pub found_fib : (words : List (List ℕ)) (c : CtlCommand) → None ≡ found show_forms words → None ≡ found rib_forms words → Some c ≡ found fib_forms words
    → Some c ≡ found forms words
found_fib words c show rib fib = rw (in_turn words, ← show, ← rib, ← fib) refl

pub found_last : (words : List (List ℕ)) (last : Option CtlCommand) → None ≡ found show_forms words → None ≡ found rib_forms words → None ≡ found fib_forms words
    → last ≡ found neighbour_forms words → last ≡ found forms words
found_last words last show rib fib neighbour = rw (in_turn words, ← show, ← rib, ← fib) neighbour

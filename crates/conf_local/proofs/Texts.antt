-- The laws of texts.
use Rattle.std.proofs.Common.{◌≡◌, ◌∙◌, ℕ, List, ◌∷◌, ◌++◌, Ok, Err, ap}
use Rattle.net_base.specs.declared.conf.ConfFault.{ConfFault}
use Rattle.conf_tree.specs.declared.draft.Draft.{Draft}
use Rattle.conf_tree.specs.declared.token.Token.{Token}
use Rattle.conf_tree.specs.Faults.{◌>>=◌}
use Rattle.conf_tree.specs.Language.{draft_within}
use Rattle.conf_tree.specs.StatementReading.{all_room, draft_of}
use Rattle.conf_tree.specs.Tokens.{tokens}
use Rattle.conf_local.specs.Parts.{AreTokensOf, StandsAtToken, IsFaultOfToken}
use Rattle.conf_local.proofs.Whole.{good_tokens, fault_at_token}
use Rattle.conf_local.proofs.TextEnds.{tokens_are_text}

pub good_text : (limit : ℕ) (text : List ℕ) (found : List Token) (draft : Draft) → tokens limit text ≡ Ok found → draft_of found ≡ Ok draft → AreTokensOf all_room found draft.statements
good_text limit text found draft t e = good_tokens found draft (tokens_are_text limit text found t) e

pub fault_of_token : (limit : ℕ) (text : List ℕ) (found : List Token) (fault : ConfFault) → tokens limit text ≡ Ok found → draft_of found ≡ Err fault → IsFaultOfToken found fault
unfolding draft_within
fault_of_token limit text found fault t e =
    let p : StandsAtToken found fault = fault_at_token found fault (tokens_are_text limit text found t) e in
    record {
      front = p.front;
      token = p.token;
      behind = p.behind;
      parts = p.parts;
      line = p.line;
      same_fault = λ limit text other same. ap (λ r. r >>= draft_of) same ∙ p.whatever_follows other (tokens_are_text limit text (p.front ++ (p.token ∷ other)) same);
    }

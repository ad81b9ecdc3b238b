use Rattle.std.proofs.Common.{◌≡◌, [], ◌∷◌, ◌++◌, List, map, sym, ap, ◌∙◌, subst}
use Rattle.adj_rib_out.specs.declared.look.Look.{Look}
use Rattle.adj_rib_out.specs.Rows.{one_or_none}
use Rattle.adj_rib_out.specs.Looks.{wanted_in}
use Rattle.rde_tables.specs.Uses.{Keeps}
use Rattle.rde_tables.specs.Wants.{bare, look_of}
use Rattle.attr_intern.proofs.References.{came_back}
use Rattle.rde_tables.proofs.Kept.{keeps_more}
use Rattle.rde_tables.proofs.Wanted.{wanted_pushed, bare_pushed}
use Rattle.rde_tables.proofs.telling.looks_of.Goals as goal

pub returns-in_err-look-clause-stays : goal.returns-in_err-look-clause-stays
returns-in_err-look-clause-stays c rest came =
    c.look_of.ensures.stays rest (came_back c.loop-want.table (wanted_in c.loop-want.looks) rest (c.loop-want.invariant.keeps.came rest came))

pub loop-want-preserved : goal.loop-want-preserved
loop-want-preserved c =
    let looks = c.loop-want.looks in
    let look = c.in_ok-look.look in
    let after = c.look_of.new.table in
    let pushed : c.push.new.self ≡ looks ++ look ∷ [] = c.in_ok-push.ensures.ok in
    let rest = map look_of c.next.new.self.rest.items in
    let step = ap (map look_of) c.in-Some.ensures.steps.0 in
    record {
      keeps = subst (λ (all : List Look). Keeps c.args.table.now after [] (wanted_in all)) (sym pushed)
          (subst (Keeps c.args.table.now after []) (sym (wanted_pushed looks look))
          (keeps_more c.args.table.now c.loop-want.table after (wanted_in looks) (one_or_none look.wanted) c.loop-want.invariant.keeps c.in_ok-look.ensures.keeps));
      like = ap (λ (all : List Look). map bare all ++ rest) pushed ∙ bare_pushed looks look rest
          ∙ ap (λ (one : Look). map bare looks ++ (one ∷ rest)) c.in_ok-look.ensures.like
          ∙ ap (λ (left : List Look). map bare looks ++ left) (sym step) ∙ c.loop-want.invariant.like;
    }

pub returns-in_err-push-clause-stays : goal.returns-in_err-push-clause-stays
returns-in_err-push-clause-stays c rest came =
    c.look_of.ensures.stays rest (came_back c.loop-want.table (wanted_in c.loop-want.looks) rest (c.loop-want.invariant.keeps.came rest came))

pub returns-clause-stays : goal.returns-clause-stays
returns-clause-stays c rest came = came_back c.loop-want.table (wanted_in c.loop-want.looks) rest (c.loop-want.invariant.keeps.came rest came)

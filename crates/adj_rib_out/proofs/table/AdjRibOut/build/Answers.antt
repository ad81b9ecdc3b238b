use Rattle.std.proofs.Common.{◌≡◌, ◌≢◌, ℕ, ◌<◌, ◌++◌, true, [], Some, length, is_some, sym, ap, ◌∙◌, subst}
use Rattle.std.specs.Prelude.{OnOk, OnErr, IfOk}
use Rattle.adj_rib_out.specs.Out.{nothing, out_at, kept, is_queued}
use Rattle.adj_rib_out.proofs.Sessions.{out_by, at_session, at_others, found_at, none_at, came_part, trades_all, trades_none, some_out}
use Rattle.adj_rib_out.proofs.table.AdjRibOut.build.Goals as goal
use Rattle.std.specs.List.{AllByRecursion, list_any}
use Rattle.std.specs.Prelude.{option_map}
use Rattle.attr_intern.specs.Table.{CameFrom}
use Rattle.adj_rib_out.specs.Message.{has_news, message_of, built_of}
use Rattle.adj_rib_out.specs.Looks.{wanted_in, used_by}
use Rattle.adj_rib_out.specs.Tells.{Tells}
use Rattle.adj_rib_out.specs.Uses.{Trades}
use Rattle.adj_rib_out.proofs.Settling.{tells_none, no_looks}
use Rattle.adj_rib_out.proofs.Messages.{built_where_news, message_fits}
use Rattle.adj_rib_out.proofs.Sessions.{same_is, if_ok, on_err, on_err_both, trades_kept, trades_back}

pub build-requires-clause-window : goal.build-requires-clause-window
build-requires-clause-window c = subst (λ out. length out.flight < 16) (ap (λ outs. out_at outs c.args.session) (sym c.self.view_is) ∙ found_at c.self.inside.sessions.entries c.args.session c.in-Some.out.now c.in-Some.ensures.value) c.requires.window

pub build-requires-clause-queued : goal.build-requires-clause-queued
build-requires-clause-queued c = subst (λ out. AllByRecursion (λ look. is_queued out look.prefix ≡ true) c.args.looks) (ap (λ outs. out_at outs c.args.session) (sym c.self.view_is) ∙ found_at c.self.inside.sessions.entries c.args.session c.in-Some.out.now c.in-Some.ensures.value) c.requires.queued

pub build-requires-clause-came : goal.build-requires-clause-came
build-requires-clause-came c =
    came_part c.args.table.now c.self.inside.sessions.entries c.args.session c.in-Some.out.now (wanted_in c.args.looks) c.in-Some.ensures.value
    (subst (λ outs. CameFrom c.args.table.now (kept outs ++ wanted_in c.args.looks)) (sym c.self.view_is) c.requires.came)

pub returns-clause-tells : goal.returns-clause-tells
returns-clause-tells c =
    let old = c.self.inside.sessions.entries in
    let w = c.build.new.out in
    let new = (c.get_mut.follows.lender w).entries in
    let found = c.in-Some.ensures.value in
    let holds = c.get_mut.follows.holds w in
    let put = (holds.3 (some_out c.in-Some.out.now (out_by old c.args.session) found)).0 in
    let was : out_at c.args.self.now c.args.session ≡ c.in-Some.out.now = ap (λ outs. out_at outs c.args.session) (sym c.self.view_is) ∙ found_at old c.args.session c.in-Some.out.now found in
    let now : out_at new c.args.session ≡ w = at_session old new c.args.session (Some w) put in
    subst (λ new. OnOk c.build.result (Tells (message_of c.args.enc (out_at c.args.self.now c.args.session) c.args.looks) c.args.looks (out_at c.args.self.now c.args.session) new)) (sym now)
    (subst (λ old. OnOk c.build.result (Tells (message_of c.args.enc old c.args.looks) c.args.looks old w)) (sym was) c.build.ensures.tells)

pub returns-clause-built : goal.returns-clause-built
returns-clause-built c =
    let old = c.self.inside.sessions.entries in
    let w = c.build.new.out in
    let new = (c.get_mut.follows.lender w).entries in
    let found = c.in-Some.ensures.value in
    let holds = c.get_mut.follows.holds w in
    let put = (holds.3 (some_out c.in-Some.out.now (out_by old c.args.session) found)).0 in
    let was : out_at c.args.self.now c.args.session ≡ c.in-Some.out.now = ap (λ outs. out_at outs c.args.session) (sym c.self.view_is) ∙ found_at old c.args.session c.in-Some.out.now found in
    let now : out_at new c.args.session ≡ w = at_session old new c.args.session (Some w) put in
    subst (λ old. IfOk c.build.result (λ built. built ≡ option_map built_of (message_of c.args.enc old c.args.looks))) (sym was) c.build.ensures.built

pub returns-clause-none : goal.returns-clause-none
returns-clause-none c =
    let old = c.self.inside.sessions.entries in
    let w = c.build.new.out in
    let new = (c.get_mut.follows.lender w).entries in
    let found = c.in-Some.ensures.value in
    let holds = c.get_mut.follows.holds w in
    let put = (holds.3 (some_out c.in-Some.out.now (out_by old c.args.session) found)).0 in
    let was : out_at c.args.self.now c.args.session ≡ c.in-Some.out.now = ap (λ outs. out_at outs c.args.session) (sym c.self.view_is) ∙ found_at old c.args.session c.in-Some.out.now found in
    let now : out_at new c.args.session ≡ w = at_session old new c.args.session (Some w) put in
    subst (λ old. IfOk c.build.result (λ built. is_some built ≡ list_any (has_news old) c.args.looks)) (sym was)
    (if_ok c.build.result (λ built is. ap is_some is ∙ built_where_news c.args.enc c.in-Some.out.now c.args.looks) c.build.ensures.built)

pub returns-clause-fits : goal.returns-clause-fits
returns-clause-fits c = if_ok c.build.result (λ built is. message_fits c.args.enc (out_at c.args.self.now c.args.session) c.args.looks c.requires.alone) c.build.ensures.built

pub returns-clause-uses : goal.returns-clause-uses
returns-clause-uses c =
    let old = c.self.inside.sessions.entries in
    let w = c.build.new.out in
    let new = (c.get_mut.follows.lender w).entries in
    let found = c.in-Some.ensures.value in
    let holds = c.get_mut.follows.holds w in
    let put = (holds.3 (some_out c.in-Some.out.now (out_by old c.args.session) found)).0 in
    let was : out_at c.args.self.now c.args.session ≡ c.in-Some.out.now = ap (λ outs. out_at outs c.args.session) (sym c.self.view_is) ∙ found_at old c.args.session c.in-Some.out.now found in
    let now : out_at new c.args.session ≡ w = at_session old new c.args.session (Some w) put in
    subst (λ outs. IfOk c.build.result (λ built. Trades c.args.table.now c.build.new.table (kept outs ++ wanted_in c.args.looks) (kept new ++ used_by built))) c.self.view_is
    (trades_kept c.build.result
    (λ built moves each. trades_all c.args.table.now c.build.new.table old new c.args.session w c.in-Some.out.now (wanted_in c.args.looks) (used_by built) found holds.0
    (subst (λ outs. CameFrom c.args.table.now (kept outs ++ wanted_in c.args.looks)) (sym c.self.view_is) c.requires.came) moves each)
    c.build.ensures.moves c.build.ensures.each)

pub returns-clause-others : goal.returns-clause-others
returns-clause-others c =
    let old = c.self.inside.sessions.entries in
    let w = c.build.new.out in
    let new = (c.get_mut.follows.lender w).entries in
    let found = c.in-Some.ensures.value in
    let holds = c.get_mut.follows.holds w in
    let put = (holds.3 (some_out c.in-Some.out.now (out_by old c.args.session) found)).0 in
    let was : out_at c.args.self.now c.args.session ≡ c.in-Some.out.now = ap (λ outs. out_at outs c.args.session) (sym c.self.view_is) ∙ found_at old c.args.session c.in-Some.out.now found in
    let now : out_at new c.args.session ≡ w = at_session old new c.args.session (Some w) put in
    subst (λ outs. (other : ℕ) → other ≢ c.args.session → out_at new other ≡ out_at outs other) c.self.view_is (at_others old new c.args.session (Some w) put)

pub returns-clause-err : goal.returns-clause-err
returns-clause-err c =
    let old = c.self.inside.sessions.entries in
    let w = c.build.new.out in
    let new = (c.get_mut.follows.lender w).entries in
    let found = c.in-Some.ensures.value in
    let holds = c.get_mut.follows.holds w in
    let put = (holds.3 (some_out c.in-Some.out.now (out_by old c.args.session) found)).0 in
    let was : out_at c.args.self.now c.args.session ≡ c.in-Some.out.now = ap (λ outs. out_at outs c.args.session) (sym c.self.view_is) ∙ found_at old c.args.session c.in-Some.out.now found in
    let now : out_at new c.args.session ≡ w = at_session old new c.args.session (Some w) put in
    on_err c.build.result (λ same. same_is (out_at c.args.self.now c.args.session) (out_at new c.args.session) (now ∙ same ∙ sym was)) c.build.ensures.err

pub returns-clause-back : goal.returns-clause-back
returns-clause-back c =
    let old = c.self.inside.sessions.entries in
    let w = c.build.new.out in
    let new = (c.get_mut.follows.lender w).entries in
    let found = c.in-Some.ensures.value in
    let holds = c.get_mut.follows.holds w in
    let put = (holds.3 (some_out c.in-Some.out.now (out_by old c.args.session) found)).0 in
    let was : out_at c.args.self.now c.args.session ≡ c.in-Some.out.now = ap (λ outs. out_at outs c.args.session) (sym c.self.view_is) ∙ found_at old c.args.session c.in-Some.out.now found in
    let now : out_at new c.args.session ≡ w = at_session old new c.args.session (Some w) put in
    subst (λ outs. OnErr c.build.result (Trades c.args.table.now c.build.new.table (kept outs ++ wanted_in c.args.looks) (kept new))) c.self.view_is
    (on_err_both c.build.result
    (λ same moves. trades_back c.args.table.now c.build.new.table old new c.args.session w c.in-Some.out.now (wanted_in c.args.looks) found holds.0
    (subst (λ outs. CameFrom c.args.table.now (kept outs ++ wanted_in c.args.looks)) (sym c.self.view_is) c.requires.came) same moves)
    c.build.ensures.err c.build.ensures.back)

pub returns-in_default-clause-tells : goal.returns-in_default-clause-tells
returns-in_default-clause-tells c =
    let is : out_at c.args.self.now c.args.session ≡ nothing = ap (λ outs. out_at outs c.args.session) (sym c.self.view_is) ∙ none_at c.self.inside.sessions.entries c.args.session c.in_default.ensures.value in
    let ends : c.args.looks ≡ [] = no_looks c.args.looks (subst (λ out. AllByRecursion (λ look. is_queued out look.prefix ≡ true) c.args.looks) is c.requires.queued) in
    let old = out_at c.args.self.now c.args.session in
    let same : c.get_mut.follows.lender-at-none.entries ≡ c.args.self.now = ap (λ map. map.entries) c.get_mut.follows.holds-at-none ∙ c.self.view_is in
    subst (λ outs. Tells (message_of c.args.enc old c.args.looks) c.args.looks old (out_at outs c.args.session)) (sym same)
    (subst (λ looks. Tells (message_of c.args.enc old looks) looks old old) (sym ends) (tells_none old))

pub returns-in_default-clause-built : goal.returns-in_default-clause-built
returns-in_default-clause-built c =
    let is : out_at c.args.self.now c.args.session ≡ nothing = ap (λ outs. out_at outs c.args.session) (sym c.self.view_is) ∙ none_at c.self.inside.sessions.entries c.args.session c.in_default.ensures.value in
    let ends : c.args.looks ≡ [] = no_looks c.args.looks (subst (λ out. AllByRecursion (λ look. is_queued out look.prefix ≡ true) c.args.looks) is c.requires.queued) in
    let old = out_at c.args.self.now c.args.session in
    ap (λ looks. option_map built_of (message_of c.args.enc old looks)) (sym ends)

pub returns-in_default-clause-none : goal.returns-in_default-clause-none
returns-in_default-clause-none c =
    let is : out_at c.args.self.now c.args.session ≡ nothing = ap (λ outs. out_at outs c.args.session) (sym c.self.view_is) ∙ none_at c.self.inside.sessions.entries c.args.session c.in_default.ensures.value in
    let ends : c.args.looks ≡ [] = no_looks c.args.looks (subst (λ out. AllByRecursion (λ look. is_queued out look.prefix ≡ true) c.args.looks) is c.requires.queued) in
    let old = out_at c.args.self.now c.args.session in
    ap (λ looks. list_any (has_news old) looks) (sym ends)

pub returns-in_default-clause-fits : goal.returns-in_default-clause-fits
returns-in_default-clause-fits c = message_fits c.args.enc (out_at c.args.self.now c.args.session) c.args.looks c.requires.alone

pub returns-in_default-clause-uses : goal.returns-in_default-clause-uses
returns-in_default-clause-uses c =
    let is : out_at c.args.self.now c.args.session ≡ nothing = ap (λ outs. out_at outs c.args.session) (sym c.self.view_is) ∙ none_at c.self.inside.sessions.entries c.args.session c.in_default.ensures.value in
    let ends : c.args.looks ≡ [] = no_looks c.args.looks (subst (λ out. AllByRecursion (λ look. is_queued out look.prefix ≡ true) c.args.looks) is c.requires.queued) in
    let old = out_at c.args.self.now c.args.session in
    let same : c.get_mut.follows.lender-at-none.entries ≡ c.args.self.now = ap (λ map. map.entries) c.get_mut.follows.holds-at-none ∙ c.self.view_is in
    trades_none c.args.table.now (kept c.args.self.now ++ wanted_in c.args.looks) (kept c.get_mut.follows.lender-at-none.entries ++ [])
    (ap (λ looks. kept c.args.self.now ++ wanted_in looks) ends ∙ ap (λ outs. kept outs ++ []) (sym same)) c.requires.came

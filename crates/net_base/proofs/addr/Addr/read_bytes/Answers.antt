-- Each branch says what std's readers found of the text.
use Rattle.std.proofs.Common.{sym, ◌∙◌, true≢false}
use Rattle.net_base.proofs.AddrText.{spells_v4, spells_v6, spells_none, read_addr_complete, read_addr_none}
use Rattle.net_base.proofs.addr.Addr.read_bytes.Goals as goal

pub returns-in-Ok-clause-grammar : goal.returns-in-Ok-clause-grammar
returns-in-Ok-clause-grammar c = spells_v4 _ c.in-Ok.ip c.from.result c.in-Ok.ensures c.from.ensures

pub returns-in-Ok-clause-value : goal.returns-in-Ok-clause-value
returns-in-Ok-clause-value c =
    sym (read_addr_complete _ _ (spells_v4 _ c.in-Ok.ip c.from.result c.in-Ok.ensures c.from.ensures))

pub returns-then-contains-clause-grammar : goal.returns-then-contains-clause-grammar
returns-then-contains-clause-grammar c =
    spells_none _ c.in_default.ensures (λ no_dot. absurd (true≢false (sym c.if-contains.true ∙ c.contains.ensures.value ∙ no_dot)))

pub returns-then-contains-clause-value : goal.returns-then-contains-clause-value
returns-then-contains-clause-value c =
    read_addr_none _ (spells_none _ c.in_default.ensures (λ no_dot. absurd (true≢false (sym c.if-contains.true ∙ c.contains.ensures.value ∙ no_dot))))

pub returns-in-Ok-parse_ascii-clause-grammar : goal.returns-in-Ok-parse_ascii-clause-grammar
returns-in-Ok-parse_ascii-clause-grammar c =
    spells_v6 _ c.in-Ok-parse_ascii.ip c.from-in-Ok-parse_ascii.result c.in-Ok-parse_ascii.ensures c.from-in-Ok-parse_ascii.ensures
    (sym c.contains.ensures.value ∙ c.if-contains.false)

pub returns-in-Ok-parse_ascii-clause-value : goal.returns-in-Ok-parse_ascii-clause-value
returns-in-Ok-parse_ascii-clause-value c =
    sym (read_addr_complete _ _ (spells_v6 _ c.in-Ok-parse_ascii.ip c.from-in-Ok-parse_ascii.result c.in-Ok-parse_ascii.ensures c.from-in-Ok-parse_ascii.ensures
    (sym c.contains.ensures.value ∙ c.if-contains.false)))

pub returns-in-Err-clause-grammar : goal.returns-in-Err-clause-grammar
returns-in-Err-clause-grammar c = spells_none _ c.in_default.ensures (λ _. c.in-Err.ensures)

pub returns-in-Err-clause-value : goal.returns-in-Err-clause-value
returns-in-Err-clause-value c = read_addr_none _ (spells_none _ c.in_default.ensures (λ _. c.in-Err.ensures))

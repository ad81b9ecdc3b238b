-- One kernel table: what is wanted of it, and how it stands.
use Rattle.std.specs.Prelude.{Bool, true, false, List, [], is_some}
use Rattle.std.specs.BTreeMap.{insert_entry, is_at}
use Rattle.std.specs.Map.{remove_entry}
use Rattle.net_base.specs.declared.addr.Addr.{Addr}
use Rattle.net_base.specs.declared.prefix.Prefix.{Prefix}
use Rattle.net_base.specs.Order.{prefix_cmp}
use Rattle.kroute.specs.declared.phase.Phase.{Phase}
use Rattle.kroute.specs.declared.phase.Phase.TheVariants.{New, Listing, Coupled, Clearing, Lost}
use Rattle.kroute.specs.Rows.{Rows, IsSetOf}
use Rattle.kroute.specs.Phases.{row_at, differ, with_work, decoupled}

-- the rows that are wanted, by prefix, and how the table stands
pub record TableState : Type 0 where
  pub wanted : Rows
  pub phase : Phase

-- nothing is wanted yet, and nothing to be done
abbrev pub new_table : TableState
new_table = record { wanted = []; phase = New }

-- this row is wanted
abbrev pub wants : Prefix → Addr → TableState → TableState
wants p hop t = record { wanted = insert_entry prefix_cmp t.wanted p hop; phase = with_work p t.phase }

-- no row of the prefix is wanted
abbrev pub wants_no : Prefix → TableState → TableState
wants_no p t = record { wanted = remove_entry (is_at (prefix_cmp p)) t.wanted; phase = with_work p t.phase }

-- coupled, or coupled again: its rows are to be listed first
abbrev pub couples : TableState → TableState
couples t = record t { phase = Listing true }

abbrev pub decouples : TableState → TableState
decouples t = record t { phase = decoupled t.phase }

-- a call failed
abbrev pub loses : TableState → TableState
loses t = record t { phase = Lost }

-- What a list of rows leaves to be done: of a coupled table each row that differs from what is wanted, of one that was
-- decoupled again all of them.
abbrev pub IsListed : Bool → Rows → Rows → Phase → Type 0
IsListed true wanted rows (Coupled known job) = IsSetOf known (λ q. is_some (row_at rows q)) × IsSetOf job (λ q. differ (row_at rows q) (row_at wanted q))
IsListed true wanted rows New = ⊥
IsListed true wanted rows (Listing coupled) = ⊥
IsListed true wanted rows (Clearing job) = ⊥
IsListed true wanted rows Lost = ⊥
IsListed false wanted rows (Clearing job) = IsSetOf job (λ q. is_some (row_at rows q))
IsListed false wanted rows New = ⊥
IsListed false wanted rows (Listing coupled) = ⊥
IsListed false wanted rows (Coupled known job) = ⊥
IsListed false wanted rows Lost = ⊥

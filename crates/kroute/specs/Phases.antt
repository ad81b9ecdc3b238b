-- How a kernel table stands, and how the calls on it change that.
use Rattle.std.specs.Prelude.{Bool, true, false, not, List, [], ◌∷◌, Option, Some, None}
use Rattle.std.specs.BTreeMap.{is_at}
use Rattle.std.specs.BTreeSet.{insert_key}
use Rattle.std.specs.Map.{lookup}
use Rattle.std.specs.Ordering.{eq_by_cmp}
use Rattle.std.specs.Set.{remove_key}
use Rattle.net_base.specs.declared.addr.Addr.{Addr}
use Rattle.net_base.specs.declared.prefix.Prefix.{Prefix}
use Rattle.net_base.specs.Order.{addr_cmp, prefix_cmp}
use Rattle.kroute.specs.declared.phase.Coupling.{Coupling}
use Rattle.kroute.specs.declared.phase.Coupling.TheVariants.{Coupled as IsCoupled, Decoupled as IsDecoupled, Lost as IsLost}
use Rattle.kroute.specs.declared.phase.Phase.{Phase}
use Rattle.kroute.specs.declared.phase.Phase.TheVariants.{New, Listing, Coupled, Clearing, Lost}

-- the hop of a prefix in a list of rows
abbrev pub row_at : List (Prefix × Addr) → Prefix → Option Addr
row_at rows p = lookup (is_at (prefix_cmp p)) rows

-- the word that shows have for it
abbrev pub coupling_of : Phase → Coupling
coupling_of New = IsDecoupled
coupling_of (Listing true) = IsCoupled
coupling_of (Listing false) = IsDecoupled
coupling_of (Coupled known job) = IsCoupled
coupling_of (Clearing job) = IsDecoupled
coupling_of Lost = IsLost

-- the prefix is to be put right: of a table that is coupled and listed alone
abbrev pub with_work : Prefix → Phase → Phase
with_work p New = New
with_work p (Listing coupled) = Listing coupled
with_work p (Coupled known job) = Coupled known (insert_key prefix_cmp job p)
with_work p (Clearing job) = Clearing job
with_work p Lost = Lost

-- decoupled: the rows that are known go one by one, a list that is still to be made first. One that was never coupled has
-- nothing to do, and a lost one does nothing.
abbrev pub decoupled : Phase → Phase
decoupled New = New
decoupled (Listing coupled) = Listing false
decoupled (Coupled known job) = Clearing known
decoupled (Clearing job) = Clearing job
decoupled Lost = Lost

-- the prefixes without this one
abbrev pub all_but : Prefix → List Prefix → List Prefix
all_but p ps = remove_key (λ q. is_at (prefix_cmp p) q) ps

-- the row of the prefix was set
abbrev pub after_set : Prefix → Phase → Phase
after_set p New = New
after_set p (Listing coupled) = Listing coupled
after_set p (Coupled known job) = Coupled (insert_key prefix_cmp known p) (all_but p job)
after_set p (Clearing job) = Clearing job
after_set p Lost = Lost

-- the row of the prefix was deleted
abbrev pub after_del : Prefix → Phase → Phase
after_del p New = New
after_del p (Listing coupled) = Listing coupled
after_del p (Coupled known job) = Coupled (all_but p known) (all_but p job)
after_del p (Clearing job) = Clearing (all_but p job)
after_del p Lost = Lost

-- whether a row is to be put right: there is one where none is wanted, or none where one is, or another hop
abbrev pub differ : Option Addr → Option Addr → Bool
differ None None = false
differ None (Some b) = true
differ (Some a) None = true
differ (Some a) (Some b) = not (eq_by_cmp addr_cmp a b)

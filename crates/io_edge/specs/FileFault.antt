-- When a fault that may be a want of memory raises a count of faults.
use Rattle.std.specs.Prelude.{◌≡◌, ℕ, Result, Ok, Err}
use Rattle.io_edge.specs.Faults.{Rose}
use Rattle.io_edge.specs.declared.files.FileFault.{FileFault}
use Rattle.io_edge.specs.declared.files.FileFault.TheVariants.{Failed, NoMemory}

-- only a failure raises the count
abbrev pub CountsFault : {T : Type 0} → ℕ → ℕ → Result T FileFault → Type 0
CountsFault old new (Ok _) = new ≡ old
CountsFault old new (Err Failed) = Rose old new
CountsFault old new (Err NoMemory) = new ≡ old

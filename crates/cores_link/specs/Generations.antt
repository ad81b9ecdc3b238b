-- The generation that is accepted.
use Rattle.std.specs.Prelude.{ℕ}
use Rattle.cores_link.specs.declared.accepted.Accepted.{Accepted}

-- how many reloads were accepted
abbrev pub accepted_generation : Accepted → ℕ
accepted_generation a = a.generation

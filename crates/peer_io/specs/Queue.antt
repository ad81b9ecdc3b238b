-- Messages that wait to be sent, as their bytes, and where each of them ends.
use Rattle.std.specs.Prelude.{◌≡◌, ℕ, ◌+◌, ◌-◌, ◌≤◌, ◌==◌, nat_le, min, Bool, if◌then◌else◌, List, [], ◌∷◌, length, drop, sum_by}
use Rattle.peer_io.specs.declared.outbox.Waiting.{Waiting}

-- The bytes that are still to be sent, the messages that don't end before them, and how many bytes of the first were sent.
pub record Queue : Type 0 where
  pub bytes : List ℕ
  pub waiting : List Waiting
  pub begun : ℕ

abbrev pub nothing_waits : Queue
nothing_waits = record { bytes = []; waiting = []; begun = 0 }

-- of messages one behind the other, those that end behind the first n bytes
abbrev pub unsent : ℕ → List Waiting → List Waiting
unsent n [] = []
unsent n (w ∷ ws) = if nat_le w.size n then unsent (n - w.size) ws else w ∷ ws

-- how many bytes of the first of those lie before
abbrev pub begun_of : ℕ → List Waiting → ℕ
begun_of n [] = 0
begun_of n (w ∷ ws) = if nat_le w.size n then begun_of (n - w.size) ws else n

abbrev pub one_update : Waiting → ℕ
one_update w = if w.is_update then 1 else 0

-- how many UPDATEs end within the first n bytes
abbrev pub ended : ℕ → List Waiting → ℕ
ended n [] = 0
ended n (w ∷ ws) = if nat_le w.size n then one_update w + ended (n - w.size) ws else 0

-- how many bytes a write of n bytes takes
abbrev pub taken : ℕ → Queue → ℕ
taken n q = min n (length q.bytes)

-- the queue behind its first n bytes
abbrev pub behind : ℕ → Queue → Queue
behind n q = record {
  bytes = drop n q.bytes;
  waiting = unsent (q.begun + n) q.waiting;
  begun = begun_of (q.begun + n) q.waiting;
}

-- how many bytes are left of a message that is begun
abbrev pub rest_of : ℕ → List Waiting → ℕ
rest_of begun [] = 0
rest_of begun (w ∷ ws) = if begun == 0 then 0 else w.size - begun

abbrev pub begun_rest : Queue → ℕ
begun_rest q = rest_of q.begun q.waiting

-- of the first no more bytes were sent than it has
abbrev pub IsFirst : ℕ → List Waiting → Type 0
IsFirst begun [] = begun ≡ 0
IsFirst begun (w ∷ ws) = begun ≤ w.size

-- The messages that wait have just these bytes.
pub record IsQueue (bytes : List ℕ) (waiting : List Waiting) (begun : ℕ) : Type 0 where
  pub total : sum_by (λ w. w.size) waiting ≡ begun + length bytes
  pub first : IsFirst begun waiting

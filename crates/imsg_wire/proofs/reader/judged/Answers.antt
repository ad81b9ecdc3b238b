use Rattle.std.proofs.Common.{arith}
use Rattle.imsg_wire.proofs.Fronts.{too_low, too_high, too_few, all_there}
use Rattle.imsg_wire.proofs.reader.judged.Goals as goal
use Rattle.imsg_wire.proofs.reader.judged.Goals.{then-size-lt-HEADER_LENGTH-via-then-size-lt-HEADER_LENGTH, then-size-lt-HEADER_LENGTH-via-else-size-lt-HEADER_LENGTH+then-size-gt-LONGEST}

pub returns-then-size-lt-HEADER_LENGTH : goal.returns-then-size-lt-HEADER_LENGTH
returns-then-size-lt-HEADER_LENGTH c =
    elim c.then-size-lt-HEADER_LENGTH.branch [
      | then-size-lt-HEADER_LENGTH-via-then-size-lt-HEADER_LENGTH w ↦ too_low c.args.header c.args.bytes.now c.requires (omega arith)
      | then-size-lt-HEADER_LENGTH-via-else-size-lt-HEADER_LENGTH+then-size-gt-LONGEST w ↦ too_high c.args.header c.args.bytes.now c.requires (omega arith) (omega arith)
    ]

pub returns-then-bytes-size : goal.returns-then-bytes-size
returns-then-bytes-size c = too_few c.args.header c.args.bytes.now c.requires (omega arith) (omega arith) (omega arith)

pub returns : goal.returns
returns c =
    (all_there c.args.header c.args.bytes.now c.requires (omega arith) (omega arith) (omega arith), omega arith, omega arith)

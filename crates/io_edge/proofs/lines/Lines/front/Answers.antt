use Rattle.std.proofs.Common.{◌≡◌, ◌-◌, None, Some, subst, take, drop, rules}
use Rattle.io_edge.specs.Reading.{Reading, IsFirstNewline, whole_line}
use Rattle.io_edge.specs.Buffer.{reading_of}
use Rattle.io_edge.proofs.Front.{whole-none, whole-some}
use Rattle.io_edge.proofs.lines.Lines.front.Goals as goal

pub returns-in-None : goal.returns-in-None
returns-in-None c =
    let P : Reading → Type 0 = λ old. whole_line old ≡ None in
    subst P c.self.view_is (whole-none (reading_of c.self.inside) (search rules))

pub returns-in-Some : goal.returns-in-Some
returns-in-Some c =
    let P : Reading → Type 0 = λ old. whole_line old ≡ Some (take c.in-Some.at (take (c.self.inside.end - c.self.inside.start) (drop c.self.inside.start c.self.inside.buffer.items))) in
    let is = subst P c.self.view_is (whole-some (reading_of c.self.inside) c.in-Some.at (search rules) (search rules)) in
    search rules

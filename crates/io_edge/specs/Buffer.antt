-- How a reader of lines keeps the bytes that came.
use Rattle.std.specs.Prelude.{◌≡◌, ◌≤◌, ◌-◌, take, drop, length}
use Rattle.io_edge.specs.Reading.{Reading}
use Rattle.io_edge.specs.declared.lines.Lines.TheInside.{Inside}

-- the bytes that aren't read yet stand in the buffer from `start` to `end`
abbrev pub reading_of : Inside → Reading
reading_of s = record {
  passed = s.passed;
  begun = s.begun.items;
  buffered = take (s.end - s.start) (drop s.start s.buffer.items);
  spent = s.spent;
}

-- the buffer is whole, and the bytes stand in it
pub record IsBuffer (s : Inside) : Type 0 where
  pub order : s.start ≤ s.end
  pub within : s.end ≤ length s.buffer.items
  pub whole : length s.buffer.items ≡ 65536

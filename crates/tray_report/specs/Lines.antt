-- Only inner contracts need this: a line built piece by piece.
use Rattle.std.specs.Prelude.{◌≡◌, List, ◌++◌, ℕ, ◌+◌, ◌-◌, ◌≤◌, length, take, drop, replicate}
use Rattle.tray_report.specs.declared.Line.{Line}
use Rattle.tray_report.specs.Images.{bytes_in}

-- A text put into a buffer after its first bytes, and where it ends.
pub record Put (before : List ℕ) (at : ℕ) (text after : List ℕ) (end : ℕ) : Type 0 where
  pub long : length after ≡ length before
  pub ends : end ≡ at + length text
  pub is : take end after ≡ take at before ++ text
  pub rest : drop end after ≡ drop end before

-- A line with room for this many bytes after it, and zeros there.
pub record Room (l : Line) (bytes : ℕ) : Type 0 where
  pub room : length l.bytes ≡ 43
  pub fits : l.length + bytes ≤ 43
  pub zeros : drop l.length l.bytes ≡ replicate (43 - l.length) 0

-- A line with the text of another, and more.
pub record Longer (l : Line) (more : List ℕ) (m : Line) : Type 0 where
  pub room : length m.bytes ≡ 43
  pub short : m.length ≤ 43
  pub long : m.length ≡ l.length + length more
  pub is : bytes_in m ≡ bytes_in l ++ more
  pub zeros : drop m.length m.bytes ≡ replicate (43 - m.length) 0

-- What the exported reader tells of a text. Assumes nothing.
use Rattle.std.specs.Prelude.{ℕ, Option, Some, None}
use Rattle.idmap.specs.declared.MapLines.{MapLines}

-- how many lines a map's text has; 0 for a text that is no map's, since a map has one at least
abbrev pub lines_of : Option MapLines → ℕ
lines_of (Some m) = m.count
lines_of None = 0

-- `idmap::show::line_text` meets its contract: blanks with three numbers and a newline put in are the line's text. Assumes
-- nothing.
use Rattle.std.proofs.Common.{refl, ◌∙◌, arith}
use Rattle.idmap.specs.Show.{shown, number_text, line_columns, line_text}
use Rattle.idmap.proofs.show.line_text.Goals as goal

pub slice_bounds-text-end-3 : goal.slice_bounds-text-end-3
unfolding shown number_text
slice_bounds-text-end-3 c =
    let a = c.copy_from_slice.ensures.after ∙ c.number_text.ensures in
    let b = c.copy_from_slice-2.ensures.after ∙ c.number_text-2.ensures in
    rw (a, b) (omega arith)

pub returns : goal.returns
unfolding shown number_text line_columns line_text
returns c =
    let a = c.copy_from_slice.ensures.after ∙ c.number_text.ensures in
    let b = c.copy_from_slice-2.ensures.after ∙ c.number_text-2.ensures in
    let d = c.copy_from_slice-3.ensures.after ∙ c.number_text-3.ensures in
    rw (a, b, d) refl

-- `journal::read::read_record` meets its contract: a record that was found lies within its journal. Assumes nothing.
use mathlib.Core.Path.{◌≡◌, sym, ap, ◌∙◌}
use native.Mathlib.Omega.{arith}
use Rattle.std.specs.Prelude.{Some, Ok}
use Rattle.journal.specs.Reading.{read_at}
use Rattle.journal.proofs.Inside.{found_inside}
use Rattle.journal.proofs.read.read_record.Goals as goal

pub load_list-requires : goal.load_list-requires
load_list-requires c =
    let found : read_at c.args.journal.now c.args.at ≡ Ok (Some c.in-Some.r) = sym c.version_then_record.ensures ∙ c.in_ok-found.was ∙ ap Ok c.in-Some.is in
    let i = found_inside c.args.journal.now c.args.at c.in-Some.r found in
    (i.ids_inside, omega (arith, i.few_ids))

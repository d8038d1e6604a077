-- `journal::numbers::put_numbers` meets its contract. Assumes nothing.
use Prim.Native.Nat.{ℕ, ◌<◌}
use mathlib.Core.Path.{ap, sym, ◌∙◌}
use mathlib.Core.List.{List, map}
use native.Mathlib.Omega.{arith}
use lib.ListN.{length, length-map}
use Rattle.std.proofs.lemmas.List.{get_or-map}
use Rattle.journal.proofs.Puts.{rest_starts, rest_room, rest_step, rest_done}
use Rattle.journal.proofs.numbers.put_numbers.Goals as goal

pub loop-x-init : goal.loop-x-init
loop-x-init g c = rest_starts c.args.buffer.now c.args.at c.args.width (map g.T.Number.value c.args.numbers.now) c.requires.room

pub put_number-requires : goal.put_number-requires
put_number-requires g c =
    let xs : List ℕ = map g.T.Number.value c.args.numbers.now in
    let h : c.loop-x.x-index < length xs = omega (arith, length-map c.args.numbers.now g.T.Number.value) in
    (c.requires.width, rest_room c.loop-x.buffer _ c.loop-x.place c.args.width xs c.loop-x.x-index c.loop-x.invariant h)

pub overflow_add-place : goal.overflow_add-place
overflow_add-place g c =
    let xs : List ℕ = map g.T.Number.value c.args.numbers.now in
    let h : c.loop-x.x-index < length xs = omega (arith, length-map c.args.numbers.now g.T.Number.value) in
    let room = rest_room c.loop-x.buffer _ c.loop-x.place c.args.width xs c.loop-x.x-index c.loop-x.invariant h in
    omega arith

pub loop-x-preserved : goal.loop-x-preserved
loop-x-preserved g c =
    let value = g.T.Number.value in
    let xs : List ℕ = map value c.args.numbers.now in
    let h : c.loop-x.x-index < length xs = omega (arith, length-map c.args.numbers.now value) in
    rest_step c.loop-x.buffer _ c.loop-x.place c.args.width xs c.loop-x.x-index c.loop-x.invariant c.put_number.new.buffer c.value.result h
    c.put_number.ensures
    (c.value.ensures ∙ ap value c.x-item.is ∙ sym (get_or-map value c.args.numbers.now c.loop-x.x-index c.x-item.result 0 c.loop-x-test.true))

pub returns : goal.returns
returns g c =
    let xs : List ℕ = map g.T.Number.value c.args.numbers.now in
    rest_done c.loop-x.buffer _ c.loop-x.place c.args.width xs c.loop-x.x-index c.loop-x.invariant
    (omega (arith, length-map c.args.numbers.now g.T.Number.value))

-- `journal::write::put_record` meets its contract: each piece goes behind the one before it. Assumes nothing.
use mathlib.Core.Path.{◌∙◌}
use Rattle.journal.proofs.Writes.{names_room, numbers_room, tail_room, record_put, names_taken, numbers_taken}
use Rattle.journal.proofs.write.put_record.Goals as goal

pub put_numbers-requires-clause-room : goal.put_numbers-requires-clause-room
put_numbers-requires-clause-room c =
    let names = names_taken c.args.c c.names_of-names.result c.names_of-names.ensures in
    rw (c.form_of-form.ensures, names, c.byte_of.ensures)
    (names_room c.args.c c.args.beside.now.text.now c.args.beside.now.list.now c.args.buffer.now c.args.beside.now.buffer_length c.args.at c.args.size c.requires.size
    c.requires.room c.put_number.new.buffer c.put_number.ensures)

pub put_numbers-requires-2-clause-room : goal.put_numbers-requires-2-clause-room
put_numbers-requires-2-clause-room c =
    let names = names_taken c.args.c c.names_of-names.result c.names_of-names.ensures in
    let numbers = numbers_taken c.args.c c.args.beside.now.buffer_length c.numbers_of-numbers.result c.numbers_of-numbers.ensures in
    let names_stored = rw (c.form_of-form.ensures, names, c.byte_of.ensures) at c.put_numbers.ensures in
    rw (c.form_of-form.ensures, numbers)
    (numbers_room c.args.c c.args.beside.now.text.now c.args.beside.now.list.now c.args.buffer.now c.args.beside.now.buffer_length c.args.at c.args.size c.requires.size
    c.requires.room c.put_number.new.buffer c.put_number.ensures
    c.put_numbers.new.buffer names_stored)

pub put_tail-requires : goal.put_tail-requires
put_tail-requires c =
    let names = names_taken c.args.c c.names_of-names.result c.names_of-names.ensures in
    let numbers = numbers_taken c.args.c c.args.beside.now.buffer_length c.numbers_of-numbers.result c.numbers_of-numbers.ensures in
    let names_stored = rw (c.form_of-form.ensures, names, c.byte_of.ensures) at c.put_numbers.ensures in
    let numbers_stored = rw (c.form_of-form.ensures, numbers) at c.put_numbers-2.ensures in
    rw c.form_of-form.ensures
    (tail_room c.args.c c.args.beside.now.text.now c.args.beside.now.list.now c.args.buffer.now c.args.beside.now.buffer_length c.args.at c.args.size c.requires.size
    c.requires.room c.put_number.new.buffer c.put_number.ensures
    c.put_numbers.new.buffer names_stored c.put_numbers-2.new.buffer numbers_stored)

pub returns : goal.returns
returns c =
    let names = names_taken c.args.c c.names_of-names.result c.names_of-names.ensures in
    let numbers = numbers_taken c.args.c c.args.beside.now.buffer_length c.numbers_of-numbers.result c.numbers_of-numbers.ensures in
    let names_stored = rw (c.form_of-form.ensures, names, c.byte_of.ensures) at c.put_numbers.ensures in
    let numbers_stored = rw (c.form_of-form.ensures, numbers) at c.put_numbers-2.ensures in
    (rw c.form_of-form.ensures at c.put_tail.ensures)
    ∙ record_put c.args.c c.args.beside.now.text.now c.args.beside.now.list.now c.args.buffer.now c.args.beside.now.buffer_length c.args.at c.args.size c.requires.size
    c.requires.room c.put_number.new.buffer c.put_number.ensures
    c.put_numbers.new.buffer names_stored c.put_numbers-2.new.buffer numbers_stored

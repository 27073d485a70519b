use Rattle.std.proofs.lemmas.Result.{err_from_is_err_and}
use Rattle.proxy_trail.proofs.Looping.{more_so_far, fewer_left, all_so_far, up_to}
use Rattle.proxy_trail.proofs.recording.note_all.Goals as goal

pub notes-smaller : goal.notes-smaller
notes-smaller c = fewer_left c.notes.proxy c.noted.new.self c.in-Some.note c.in-Some.ensures.note c.noted.ensures.rest

pub notes-preserved : goal.notes-preserved
notes-preserved c =
    more_so_far c.args.proxy.now c.notes.proxy c.noted.new.self c.args.book.now c.notes.book c.note.new.self c.in-Some.note c.notes.invariant c.in-Some.ensures.note c.noted.ensures.rest c.in_ok-note-in-Some.ensures

pub returns-in_err-note-in-Some : goal.returns-in_err-note-in-Some
returns-in_err-note-in-Some c =
    let p = err_from_is_err_and c.from_residual.result c.from_residual.ensures.1 in
    rw (p.1, p.2) (up_to c.in_err-note-in-Some.field-0.0 c.args.proxy.now c.notes.proxy c.noted.new.self c.args.book.now c.notes.book c.note.new.self c.in-Some.note c.notes.invariant c.in-Some.ensures.note c.noted.ensures.rest
    c.in_err-note-in-Some.ensures)

pub returns-in-None : goal.returns-in-None
returns-in-None c = all_so_far c.args.proxy.now c.notes.proxy c.noted.new.self c.args.book.now c.notes.book c.notes.invariant c.in-None.ensures.note c.noted.ensures.rest

use Rattle.std.proofs.Common.{ap, ◌∙◌}
use Rattle.side_model.specs.Books.{Book}
use Rattle.trail_records.specs.Noting.{cut_to}
use Rattle.proxy_trail.specs.Recording.{NotesUpTo}
use Rattle.proxy_trail.proofs.Cutting.{cut_again, cut_weight, room_all}
use Rattle.proxy_trail.proofs.recording.record_all.Goals as goal

pub cut_back-requires-clause-closed : goal.cut_back-requires-clause-closed
cut_back-requires-clause-closed c =
    let n : NotesUpTo c.in-Err-Memory.field-0 c.args.proxy.now c.note_all.new.proxy c.args.book.now c.note_all.new.book = c.in-Err-Memory.ensures in
    ap (λ (b : Book). b.trail.lines.room) n.book ∙ room_all n.done c.args.book.now ∙ c.requires.closed

pub cut_back-requires-clause-weight : goal.cut_back-requires-clause-weight
cut_back-requires-clause-weight c =
    let n : NotesUpTo c.in-Err-Memory.field-0 c.args.proxy.now c.note_all.new.proxy c.args.book.now c.note_all.new.book = c.in-Err-Memory.ensures in
    cut_weight n.done c.lengths-lengths.result c.args.book.now c.note_all.new.book c.lengths-lengths.ensures n.book

pub returns-in-Err-Memory : goal.returns-in-Err-Memory
returns-in-Err-Memory c =
    let n : NotesUpTo c.in-Err-Memory.field-0 c.args.proxy.now c.note_all.new.proxy c.args.book.now c.note_all.new.book = c.in-Err-Memory.ensures in
    record {
      done = n.done;
      note = n.note;
      left = n.left;
      row = n.row;
      now = n.now;
      book = c.cut_back.ensures ∙ ap (cut_to c.lengths-lengths.result) n.book ∙ cut_again n.done c.lengths-lengths.result c.args.book.now c.lengths-lengths.ensures;
    }

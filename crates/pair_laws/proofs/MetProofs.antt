-- Two pairs of sides that agree.
use Rattle.std.proofs.Common.{◌≡◌, ℕ, Bool, true, false, cond, nat_le, List, [], ◌∷◌, ◌++◌, Some, None, refl, sym, subst}
use Rattle.std.proofs.lemmas.Bool.{leb-true}
use Rattle.std.specs.Prelude.{◌==◌}
use Rattle.plain_lists.specs.Fronts.{IsFront}
use Rattle.plain_lists.proofs.FrontLemmas.{IsFront_self}
use Rattle.wp_outside.specs.declared.kinds.Side.{Side}
use Rattle.wp_outside.specs.declared.kinds.Side.TheVariants.{Near, Far}
use Rattle.wl_wire.specs.Wire as wire
use Rattle.wl_wire.specs.Building as building
use Rattle.wl_wire.specs.ArgFaults as arguments
use Rattle.wl_wire.specs.Arguments as paddings
use Rattle.transfer_frames.specs.Faults as faulty
use Rattle.transfer_frames.specs.Front as fronts
use Rattle.transfer_frames.specs.declared.frame.Frame.TheVariants as frames
use Rattle.transfer_frames.specs.Grammar as grammar
use Rattle.transfer_frames.specs.Grammar.{spelling}
use Rattle.transfer_frames.specs.Numbers as numbers
use Rattle.surface_damage.specs.Images as images
use Rattle.half_model.specs.Turn as turns
use Rattle.pair_model.specs.Lines.{Line, Agrees, written_on, read_on}
use Rattle.side_model.specs.declared.fault.ProxyFault.{ProxyFault}
use Rattle.side_model.specs.Books.{weight, MOST_WEIGHT}
use Rattle.side_model.specs.Due.{next, work, hear, group, treat, end, choose}
use Rattle.side_model.specs.Events.{Halt, Rest}
use Rattle.side_model.specs.Records.{Law}
use Rattle.side_model.specs.Running.{Run, begins}
use Rattle.side_model.specs.State.{Now}
use Rattle.side_model.specs.Steps.{step}
use Rattle.side_model.specs.WorkedRows.{TOKEN}
use Rattle.side_model.proofs.FollowsOut.{follows_at_first}
use Rattle.side_model.proofs.Stopping.{lawful_stops}
use Rattle.pair_laws.specs.Everything.{IsLawfulDrained}
use Rattle.pair_laws.specs.MetRows.{RefusesBind, ReceivesAll, ended, restart, makes_registry, binds, binding, deleting, showing, giving, binding_events, deleting_events, showing_events, giving_events, unknown_object}
use Rattle.pair_laws.proofs.Emptying.{nothing_left}
use Rattle.pair_laws.proofs.Running.{FollowsRun, follows_calls}

-- one connection
abbrev one_line : List ℕ → List ℕ → List Line
one_line written read = record { connection = 1; written = written; read = read } ∷ []

-- what the one side wrote there, the other read
same_bytes : (c : ℕ) (bytes other more : List ℕ) → IsFront (read_on c (one_line other bytes)) (written_on c (one_line bytes more))
same_bytes c bytes other more = by (1 == c)
  where
    by : (b : Bool) → IsFront (cond b bytes []) (cond b bytes [])
    by true = IsFront_self bytes
    by false = IsFront_self []

agree : (near far : List Line) (up down : List ℕ) → near ≡ one_line up down → far ≡ one_line down up → Agrees near far
agree near far up down n f =
    subst (λ (lines : List Line). Agrees lines far) (sym n)
    (subst (λ (lines : List Line). Agrees (one_line up down) lines) (sym f)
    (record { up = λ c. same_bytes c up down down; down = λ c. same_bytes c down up up }))

-- what a run came to
record CameTo (side : Side) (run : Run) : Type 0 where
  follows : FollowsRun run
  side_is : run.now.side ≡ side
  token_is : run.now.token ≡ TOKEN
  weighs : nat_le (weight run.book.trail) MOST_WEIGHT ≡ true

-- it came to rest, or to a fault
at_rest : (side : Side) (run : Run) → CameTo side run → next run.now ≡ Rest → Law side TOKEN run.book None
at_rest side run c e =
    subst (λ (s : Side). Law s TOKEN run.book None) c.side_is
    (subst (λ (t : List ℕ). Law run.now.side t run.book None) c.token_is
    (lawful_stops.rests run.now run.book c.follows (leb-true (weight run.book.trail) MOST_WEIGHT c.weighs) e))

at_fault : (side : Side) (run : Run) (fault : ProxyFault) → CameTo side run → next run.now ≡ Halt fault → Law side TOKEN run.book (Some fault)
at_fault side run fault c e =
    subst (λ (s : Side). Law s TOKEN run.book (Some fault)) c.side_is
    (subst (λ (t : List ℕ). Law run.now.side t run.book (Some fault)) c.token_is
    (lawful_stops.halts run.now run.book fault c.follows (leb-true (weight run.book.trail) MOST_WEIGHT c.weighs) e))

binding_came : CameTo Near binding
unfolding binding weight step next work hear group treat end choose turns.turn images.any_below
    fronts.front fronts.frame_in faulty.body_fault faulty.first_fault faulty.word_fault grammar.type_at grammar.spelling
    numbers.word_bytes numbers.word_of numbers.long_bytes numbers.long_of numbers.rid_bytes numbers.rid_of
    wire.first wire.size_of wire.word_at wire.cut wire.cut_rest wire.cut_within building.word_bytes
    arguments.word_size arguments.object_size arguments.array_size arguments.string_size arguments.span_of paddings.padding_of
binding_came = record { follows = follows_calls binding_events (begins Near TOKEN) refl (follows_at_first Near TOKEN refl); side_is = refl; token_is = refl; weighs = refl }

deleting_came : CameTo Far deleting
unfolding deleting weight step next work hear group treat end choose turns.turn images.any_below
    fronts.front fronts.frame_in faulty.body_fault faulty.first_fault faulty.word_fault grammar.type_at grammar.spelling
    numbers.word_bytes numbers.word_of numbers.long_bytes numbers.long_of numbers.rid_bytes numbers.rid_of
    wire.first wire.size_of wire.word_at wire.cut wire.cut_rest wire.cut_within building.word_bytes
    arguments.word_size arguments.object_size arguments.array_size arguments.string_size arguments.span_of paddings.padding_of
deleting_came = record { follows = follows_calls deleting_events (begins Far TOKEN) refl (follows_at_first Far TOKEN refl); side_is = refl; token_is = refl; weighs = refl }

showing_came : CameTo Near showing
unfolding showing weight step next work hear group treat end choose turns.turn images.any_below
    fronts.front fronts.frame_in faulty.body_fault faulty.first_fault faulty.word_fault grammar.type_at grammar.spelling
    numbers.word_bytes numbers.word_of numbers.long_bytes numbers.long_of numbers.rid_bytes numbers.rid_of
    wire.first wire.size_of wire.word_at wire.cut wire.cut_rest wire.cut_within building.word_bytes
    arguments.word_size arguments.object_size arguments.array_size arguments.string_size arguments.span_of paddings.padding_of
showing_came = record { follows = follows_calls showing_events (begins Near TOKEN) refl (follows_at_first Near TOKEN refl); side_is = refl; token_is = refl; weighs = refl }

giving_came : CameTo Far giving
unfolding giving weight step next work hear group treat end choose turns.turn images.any_below
    fronts.front fronts.frame_in faulty.body_fault faulty.first_fault faulty.word_fault grammar.type_at grammar.spelling
    numbers.word_bytes numbers.word_of numbers.long_bytes numbers.long_of numbers.rid_bytes numbers.rid_of
    wire.first wire.size_of wire.word_at wire.cut wire.cut_rest wire.cut_within building.word_bytes
    arguments.word_size arguments.object_size arguments.array_size arguments.string_size arguments.span_of paddings.padding_of
giving_came = record { follows = follows_calls giving_events (begins Far TOKEN) refl (follows_at_first Far TOKEN refl); side_is = refl; token_is = refl; weighs = refl }

binding_rests : next binding.now ≡ Rest
unfolding binding weight step next work hear group treat end choose turns.turn images.any_below
    fronts.front fronts.frame_in faulty.body_fault faulty.first_fault faulty.word_fault grammar.type_at grammar.spelling
    numbers.word_bytes numbers.word_of numbers.long_bytes numbers.long_of numbers.rid_bytes numbers.rid_of
    wire.first wire.size_of wire.word_at wire.cut wire.cut_rest wire.cut_within building.word_bytes
    arguments.word_size arguments.object_size arguments.array_size arguments.string_size arguments.span_of paddings.padding_of
binding_rests = refl

showing_rests : next showing.now ≡ Rest
unfolding showing weight step next work hear group treat end choose turns.turn images.any_below
    fronts.front fronts.frame_in faulty.body_fault faulty.first_fault faulty.word_fault grammar.type_at grammar.spelling
    numbers.word_bytes numbers.word_of numbers.long_bytes numbers.long_of numbers.rid_bytes numbers.rid_of
    wire.first wire.size_of wire.word_at wire.cut wire.cut_rest wire.cut_within building.word_bytes
    arguments.word_size arguments.object_size arguments.array_size arguments.string_size arguments.span_of paddings.padding_of
showing_rests = refl

giving_rests : next giving.now ≡ Rest
unfolding giving weight step next work hear group treat end choose turns.turn images.any_below
    fronts.front fronts.frame_in faulty.body_fault faulty.first_fault faulty.word_fault grammar.type_at grammar.spelling
    numbers.word_bytes numbers.word_of numbers.long_bytes numbers.long_of numbers.rid_bytes numbers.rid_of
    wire.first wire.size_of wire.word_at wire.cut wire.cut_rest wire.cut_within building.word_bytes
    arguments.word_size arguments.object_size arguments.array_size arguments.string_size arguments.span_of paddings.padding_of
giving_rests = refl

deleting_halts : next deleting.now ≡ Halt unknown_object
unfolding deleting weight step next work hear group treat end choose turns.turn images.any_below
    fronts.front fronts.frame_in faulty.body_fault faulty.first_fault faulty.word_fault grammar.type_at grammar.spelling
    numbers.word_bytes numbers.word_of numbers.long_bytes numbers.long_of numbers.rid_bytes numbers.rid_of
    wire.first wire.size_of wire.word_at wire.cut wire.cut_rest wire.cut_within building.word_bytes
    arguments.word_size arguments.object_size arguments.array_size arguments.string_size arguments.span_of paddings.padding_of
deleting_halts = refl

binding_lines : binding.book.trail.lines.rows ≡ one_line (restart ++ (spelling makes_registry ++ spelling binds)) (restart)
unfolding binding weight step next work hear group treat end choose turns.turn images.any_below
    fronts.front fronts.frame_in faulty.body_fault faulty.first_fault faulty.word_fault grammar.type_at grammar.spelling
    numbers.word_bytes numbers.word_of numbers.long_bytes numbers.long_of numbers.rid_bytes numbers.rid_of
    wire.first wire.size_of wire.word_at wire.cut wire.cut_rest wire.cut_within building.word_bytes
    arguments.word_size arguments.object_size arguments.array_size arguments.string_size arguments.span_of paddings.padding_of
binding_lines = refl

deleting_lines : deleting.book.trail.lines.rows ≡ one_line (restart) (restart ++ (spelling makes_registry ++ spelling binds))
unfolding deleting weight step next work hear group treat end choose turns.turn images.any_below
    fronts.front fronts.frame_in faulty.body_fault faulty.first_fault faulty.word_fault grammar.type_at grammar.spelling
    numbers.word_bytes numbers.word_of numbers.long_bytes numbers.long_of numbers.rid_bytes numbers.rid_of
    wire.first wire.size_of wire.word_at wire.cut wire.cut_rest wire.cut_within building.word_bytes
    arguments.word_size arguments.object_size arguments.array_size arguments.string_size arguments.span_of paddings.padding_of
deleting_lines = refl

showing_lines : showing.book.trail.lines.rows ≡ one_line (restart ++ spelling makes_registry) (restart ++ spelling (frames.Ack 1))
unfolding showing weight step next work hear group treat end choose turns.turn images.any_below
    fronts.front fronts.frame_in faulty.body_fault faulty.first_fault faulty.word_fault grammar.type_at grammar.spelling
    numbers.word_bytes numbers.word_of numbers.long_bytes numbers.long_of numbers.rid_bytes numbers.rid_of
    wire.first wire.size_of wire.word_at wire.cut wire.cut_rest wire.cut_within building.word_bytes
    arguments.word_size arguments.object_size arguments.array_size arguments.string_size arguments.span_of paddings.padding_of
showing_lines = refl

giving_lines : giving.book.trail.lines.rows ≡ one_line (restart ++ spelling (frames.Ack 1)) (restart ++ spelling makes_registry)
unfolding giving weight step next work hear group treat end choose turns.turn images.any_below
    fronts.front fronts.frame_in faulty.body_fault faulty.first_fault faulty.word_fault grammar.type_at grammar.spelling
    numbers.word_bytes numbers.word_of numbers.long_bytes numbers.long_of numbers.rid_bytes numbers.rid_of
    wire.first wire.size_of wire.word_at wire.cut wire.cut_rest wire.cut_within building.word_bytes
    arguments.word_size arguments.object_size arguments.array_size arguments.string_size arguments.span_of paddings.padding_of
giving_lines = refl

pub refuses_bind : RefusesBind
refuses_bind = record {
  one_law = at_rest Near binding binding_came binding_rests;
  other_law = at_fault Far deleting unknown_object deleting_came deleting_halts;
  agrees = agree binding.book.trail.lines.rows deleting.book.trail.lines.rows (restart ++ (spelling makes_registry ++ spelling binds)) restart binding_lines deleting_lines;
}

-- nothing is left to be sent, made or given
record NothingLeft (s : Now) : Type 0 where
  ring : s.kept.ring.frames ≡ []
  owes : s.live.sending.owes ≡ None
  items : s.live.items ≡ []

drained_at : (side : Side) (run : Run) → CameTo side run → next run.now ≡ Rest → NothingLeft run.now → IsLawfulDrained side (ended run None)
drained_at side run c e left =
    subst (λ (s : Side). IsLawfulDrained s (ended run None)) c.side_is
    (subst (λ (t : List ℕ). IsLawfulDrained run.now.side (record { token = t; book = run.book; fault = None })) c.token_is
    (nothing_left run.now run.book c.follows e (leb-true (weight run.book.trail) MOST_WEIGHT c.weighs) left.ring left.owes left.items))

showing_left : NothingLeft showing.now
unfolding showing weight step next work hear group treat end choose turns.turn images.any_below
    fronts.front fronts.frame_in faulty.body_fault faulty.first_fault faulty.word_fault grammar.type_at grammar.spelling
    numbers.word_bytes numbers.word_of numbers.long_bytes numbers.long_of numbers.rid_bytes numbers.rid_of
    wire.first wire.size_of wire.word_at wire.cut wire.cut_rest wire.cut_within building.word_bytes
    arguments.word_size arguments.object_size arguments.array_size arguments.string_size arguments.span_of paddings.padding_of
showing_left = record { ring = refl; owes = refl; items = refl }

giving_left : NothingLeft giving.now
unfolding giving weight step next work hear group treat end choose turns.turn images.any_below
    fronts.front fronts.frame_in faulty.body_fault faulty.first_fault faulty.word_fault grammar.type_at grammar.spelling
    numbers.word_bytes numbers.word_of numbers.long_bytes numbers.long_of numbers.rid_bytes numbers.rid_of
    wire.first wire.size_of wire.word_at wire.cut wire.cut_rest wire.cut_within building.word_bytes
    arguments.word_size arguments.object_size arguments.array_size arguments.string_size arguments.span_of paddings.padding_of
giving_left = record { ring = refl; owes = refl; items = refl }

pub receives_all : ReceivesAll
receives_all =
    let near : IsLawfulDrained Near (ended showing None) = drained_at Near showing showing_came showing_rests showing_left in
    let far : IsLawfulDrained Far (ended giving None) = drained_at Far giving giving_came giving_rests giving_left in
    record {
      pair = record {
        one_law = near.law;
        other_law = far.law;
        agrees = agree showing.book.trail.lines.rows giving.book.trail.lines.rows (restart ++ spelling makes_registry) (restart ++ spelling (frames.Ack 1)) showing_lines giving_lines;
      };
      drained = record { near_drained = near.drained; far_drained = far.drained };
    }

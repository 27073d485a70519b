-- With agreement, a side that refuses something refuses the content of a frame.
use Rattle.std.proofs.Common.{◌≡◌, ℕ, ◌<◌, List, [], ◌++◌, Option, Some, None, Err, length, refl, sym, ap, subst, ◌∙◌, inl, inr, ◌⊎◌}
use Rattle.std.specs.Option.{MatchOption}
use Rattle.transfer_frames.specs.declared.frame.Frame.{Frame}
use Rattle.transfer_frames.specs.declared.cause.FrameCause.{FrameCause}
use Rattle.transfer_frames.specs.Front.{front}
use Rattle.transfer_frames.specs.Grammar.{role}
use Rattle.pair_model.specs.Lines.{Agrees, SideRecord, Stop, read_on, written_on}
use Rattle.pair_model.specs.Rows.{spellings, counted, reply}
use Rattle.pair_model.specs.LinkFaults.{link_fault, judge_of}
use Rattle.pair_model.specs.Wire.{Wire, Ends, accepted_below}
use Rattle.pair_model.specs.Refusals.{Refused, RefusedFrame, ContentRefused, first_cause}
use Rattle.pair_model.specs.Laws.{Countable, Unspoiled}
use Rattle.pair_model.proofs.NoRefusal.{Next, refuses_none, is_next_made, grammar_kept}

module _ (content : List Frame → Frame → Option FrameCause) (token : List ℕ) (reader writer : SideRecord) (stop : Stop) (r : Wire token reader) (w : Wire token writer)
    (agrees : Agrees reader.lines writer.lines) (counts : Countable writer) (h : Refused content token reader stop) where
  back : Agrees writer.lines reader.lines
  back = record { up = agrees.down; down = agrees.up }

  -- nothing is read behind the place where reading stopped
  last : (c : ℕ) → stop.connection < c → read_on c reader.lines ≡ []
  last c l =
      let ends : (d : ℕ) → stop.connection < d → (read_on d reader.lines ≡ []) × (written_on d reader.lines ≡ []) = subst (λ (s : Option Stop). Ends s reader.lines) h.stops r.ends in
      (ends c l).0

  content_refused : (cause : FrameCause) (rest : List ℕ) → read_on stop.connection reader.lines ≡ spellings (h.seen stop.connection) ++ rest
      → RefusedFrame (content (accepted_below h.seen h.bound)) (judge_of token reader stop.connection (length (counted h.whole))) (reply (h.seen stop.connection)) rest cause
      → ContentRefused content reader writer cause
  content_refused cause rest e f =
      let next : Next reader (h.seen stop.connection) stop.connection f.frame = record {
        is_frame = f.is_frame;
        more = f.more;
        bytes = e ∙ ap (λ bytes. spellings (h.seen stop.connection) ++ bytes) f.bytes_are;
        last = last;
      } in
      let none : link_fault (judge_of token reader stop.connection (length (counted h.whole))) (reply (h.seen stop.connection)) (role f.frame) ≡ None =
      refuses_none r w back counts h.sees stop.connection f.frame h.whole next h.wrote in
      record {
        accepted = accepted_below h.seen h.bound;
        accepts = record { seen = h.seen; bound = h.bound; sees = h.sees; frames_are = refl };
        frame = f.frame;
        is_frame = f.is_frame;
        refuses = sym (ap (λ (c : Option FrameCause). first_cause c (content (accepted_below h.seen h.bound) f.frame)) none) ∙ f.cause_is;
        is_next = λ e. is_next_made r w back counts h.sees stop.connection f.frame h.whole next h.wrote e;
      }

  refused_content : (cause : FrameCause) → stop.cause ≡ Some cause → ContentRefused content reader writer cause
  refused_content cause k =
      let because : (rest : List ℕ) → read_on stop.connection reader.lines ≡ spellings (h.seen stop.connection) ++ rest
      → (front rest ≡ Err cause) ⊎ RefusedFrame (content (accepted_below h.seen h.bound)) (judge_of token reader stop.connection (length (counted h.whole))) (reply (h.seen stop.connection)) rest cause =
      subst (λ (o : Option FrameCause). MatchOption o (Unit {0}) (λ cause. (rest : List ℕ) → read_on stop.connection reader.lines ≡ spellings (h.seen stop.connection) ++ rest
      → (front rest ≡ Err cause) ⊎ RefusedFrame (content (accepted_below h.seen h.bound)) (judge_of token reader stop.connection (length (counted h.whole))) (reply (h.seen stop.connection)) rest cause)) k h.because in
      let rest : List ℕ = (h.sees.reads stop.connection).rest in
      let bytes : read_on stop.connection reader.lines ≡ spellings (h.seen stop.connection) ++ rest = (h.sees.reads stop.connection).bytes in
      elim (because rest bytes) [
        | inl fault ↦ absurd (grammar_kept w back h.sees stop.connection rest bytes cause fault)
        | inr f ↦ content_refused cause rest bytes f
      ]

pub unspoiled : Unspoiled
unspoiled content token reader writer stop cause r w agrees counts h k = refused_content content token reader writer stop r w agrees counts h cause k

-- A proxy with nothing left to send, to copy or to give is that of a drained side.
use Rattle.std.proofs.Common.{◌≡◌, ◌≤◌, List, [], ◌++◌, Option, None, map, drop, length, refl, sym, ap, ◌∙◌, subst, arith, length-drop}
use Rattle.std.proofs.lemmas.List.{append-nil, length-map}
use Rattle.std.specs.Prelude.{count_by}
use Rattle.transfer_frames.specs.Grammar.{spelling}
use Rattle.half_model.specs.declared.items.PeerOut.{PeerOut}
use Rattle.half_model.specs.ItemLaws.{given_in}
use Rattle.half_model.specs.Log.{LogState}
use Rattle.half_model.specs.Story.{accepted_in}
use Rattle.side_model.specs.declared.fault.ProxyFault.{ProxyFault}
use Rattle.side_model.specs.Due.{next}
use Rattle.side_model.specs.Events.{Rest}
use Rattle.side_model.specs.Books.{Book, weight, MOST_WEIGHT}
use Rattle.side_model.specs.Follows.{Follows, Rests, is_message}
use Rattle.side_model.specs.Places.{places_in, side_of}
use Rattle.side_model.specs.Records.{Law}
use Rattle.side_model.specs.State.{Now}
use Rattle.side_model.proofs.Dues.{is_quiet, all_rest}
use Rattle.side_model.proofs.Links.{link_down}
use Rattle.pair_laws.specs.Everything.{IsLawfulDrained, EmptyIsDrained}
use Rattle.pair_laws.proofs.Receiving.{meant_count}
use Rattle.pair_laws.proofs.Saying.{meant_length}

-- while a proxy rests, its records are lawful by the story that follows it
resting : (s : Now) (book : Book) (f : Follows s book) → next s ≡ Rest → weight book.trail ≤ MOST_WEIGHT → Law s.side s.token book None
resting s book f rest few =
    let rests : Rests s.token (side_of book.trail (places_in f.story) None) (accepted_in f.story) =
    link_down s.token (side_of book.trail (places_in f.story) None) (accepted_in f.story) s.live.here (is_quiet s (all_rest s rest).hears) f.link in
    record { story = f.story; tells = f.tells; log = f.log; stop = None; wire = rests.wire; heard = rests.accepts; stops = refl; index = tt; weighs = few }

-- and those of a drained side, where nothing is left
pub nothing_left : (s : Now) (book : Book) → Follows s book → next s ≡ Rest → weight book.trail ≤ MOST_WEIGHT
    → s.kept.ring.frames ≡ [] → s.live.sending.owes ≡ None → s.live.items ≡ [] → IsLawfulDrained s.side (record { token = s.token; book = book; fault = None })
unfolding resting
nothing_left s book f rest few ring owes items =
    let left : map spelling (drop s.kept.ring.acknowledged book.trail.made) ≡ [] = sym f.ring.frames_are ∙ ring in
    let none : length (drop s.kept.ring.acknowledged book.trail.made) ≡ 0 = sym (length-map (drop s.kept.ring.acknowledged book.trail.made) spelling) ∙ ap length left in
    let gone : f.items.gone ≡ given_in s.side f.story = sym (append-nil f.items.gone) ∙ ap (λ (is : List PeerOut). f.items.gone ++ is) (sym items) ∙ f.items.row in
    record {
      law = resting s book f rest few;
      drained = record {
        known = omega (arith, none, length-drop s.kept.ring.acknowledged book.trail.made, f.ring.within, f.acknowledged);
        owes = ap (λ (t : LogState). t.owes) f.after ∙ owes;
        gave = f.items.counts ∙ ap (count_by is_message) gone ∙ sym (meant_count s.side f.story f.log) ∙ meant_length s.side f.story f.log;
      };
    }

pub empty_is_drained : EmptyIsDrained
empty_is_drained t keeps e ring owes items =
    let r = keeps.runs e in
    subst (λ (fault : Option ProxyFault). IsLawfulDrained t.now.side (record { token = t.now.token; book = t.book; fault = fault })) (sym e)
    (nothing_left t.now t.book r.follows r.rests keeps.law.weighs ring owes items)

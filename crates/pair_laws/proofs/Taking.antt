-- Each PROTOCOL frame that was made is that of a message which was taken before.
use Rattle.std.proofs.Common.{◌≡◌, ℕ, true, List, [], ◌∷◌, ◌++◌, Option, Some, None, length, refl, sym, ap, ◌∙◌, subst, arith, append_assoc, length-append, inl, inr, ◌⊎◌, ⊎_elim}
use Rattle.std.proofs.lemmas.Grind.{flat_map-append}
use Rattle.std.specs.List.{AllByRecursion}
use Rattle.wp_outside.specs.declared.kinds.Side.{Side}
use Rattle.handle_table.specs.declared.handles.Handle.{Handle}
use Rattle.transfer_frames.specs.declared.frame.Frame.{Frame}
use Rattle.transfer_frames.specs.declared.frame.Frame.TheVariants.{Protocol}
use Rattle.half_model.specs.Group.{Owed, IsGroup}
use Rattle.half_model.specs.Log.{Mark, Taken, Heard, Grouped, Dropped, LogState, log_new, MayMake, Lawful, log_next, Logs, log_after}
use Rattle.half_model.specs.Story.{made_by, made_in}
use Rattle.half_model.specs.StoryLaws.{now, IsStory}
use Rattle.half_model.proofs.ShownLaws.{group_owes}
use Rattle.mirror_laws.specs.MessageLaws.{IsGrouped}
use Rattle.mirror_laws.proofs.Messages.{each_is_grouped}
use Rattle.pair_laws.specs.Orders.{goes_by, Shows, EachIsShown}

-- marks that go by make no frame
pub no_frames : (marks : List Mark) → AllByRecursion (λ mark. goes_by mark ≡ true) marks → made_in marks ≡ []
no_frames [] h = refl
no_frames (Taken message handle segments ∷ marks) h = absurd cc
no_frames (Heard frame ∷ marks) h = no_frames marks h.1
no_frames (Grouped frames copies ∷ marks) h = absurd cc
no_frames (Dropped rid ∷ marks) h = no_frames marks h.1

-- ---- the last message taken

-- a story up to a message, behind which only marks stand that go by
record Since (story : List Mark) : Type 0 where
  earlier : List Mark
  message : List ℕ
  handle : Option Handle
  segments : List ℕ
  between : List Mark
  waits : AllByRecursion (λ mark. goes_by mark ≡ true) between
  split : story ≡ earlier ++ Taken message handle segments ∷ between

since_behind : (mark : Mark) (story : List Mark) → Since story → Since (mark ∷ story)
since_behind mark story f = record {
  earlier = mark ∷ f.earlier;
  message = f.message;
  handle = f.handle;
  segments = f.segments;
  between = f.between;
  waits = f.waits;
  split = ap (λ (marks : List Mark). mark ∷ marks) f.split;
}

-- where a message is owed behind some marks, it was taken among them, or was owed before
Before : LogState → List Mark → Owed → Type 0
Before s story owed = Since story ⊎ ((s.owes ≡ Some owed) × AllByRecursion (λ mark. goes_by mark ≡ true) story)

since_mark : (s : LogState) (mark : Mark) (story : List Mark) (owed : Owed) → Before (log_next s mark) story owed → Before s (mark ∷ story) owed
unfolding Before
since_mark s mark story owed (inl f) = inl (since_behind mark story f)
since_mark s (Taken message handle segments) story owed (inr h) =
    inl (record { earlier = []; message = message; handle = handle; segments = segments; between = story; waits = h.1; split = refl })
since_mark s (Heard frame) story owed (inr h) = inr (h.0, (refl, h.1))
since_mark s (Dropped rid) story owed (inr h) = inr (h.0, (refl, h.1))
since_mark s (Grouped frames copies) story owed (inr h) =
    absurd (let never : Some owed ≡ None = sym h.0 ∙ group_owes s s.owes frames refl in cc)

since : (s : LogState) (story : List Mark) (owed : Owed) → (log_after s story).owes ≡ Some owed → Before s story owed
unfolding Before
since s [] owed e = inr (e, tt)
since s (mark ∷ story) owed e = since_mark s mark story owed (since (log_next s mark) story owed e)

since_now : (side : Side) (story : List Mark) (owed : Owed) → (now side story).owes ≡ Some owed → Since story
unfolding Before
since_now side story owed e = ⊎_elim (λ f. f) (λ none. absurd (let never : None ≡ Some owed = none.0 in cc)) (since (log_new side) story owed e)

-- ---- a group in a story

lawful_at : (s : LogState) (earlier : List Mark) (mark : Mark) (later : List Mark) → Logs s (earlier ++ mark ∷ later) → Lawful (log_after s earlier) mark
lawful_at s [] mark later logs = logs.0
lawful_at s (first ∷ earlier) mark later logs = lawful_at (log_next s first) earlier mark later logs.1

shown : (side : Side) (story : List Mark) (front : List Frame) (bytes : List ℕ) → IsStory side story → (g : IsGrouped side story front bytes) → Since g.earlier → (message : List ℕ) × Shows story message (length front)
shown side story front bytes logs g f =
    let may : MayMake (now side g.earlier) (now side g.earlier).owes g.frames g.copies =
    lawful_at (log_new side) g.earlier (Grouped g.frames g.copies) g.rest (subst (λ (marks : List Mark). IsStory side marks) g.split logs) in
    let group : IsGroup g.owed g.copies g.frames = subst (λ (o : Option Owed). MayMake (now side g.earlier) o g.frames g.copies) g.up_to.owes may in
    let frames : g.frames ≡ g.inner ++ Protocol g.up_to.message ∷ g.up_to.later = group.is ∙ sym g.up_to.is_group.is in
    let split : story ≡ f.earlier ++ Taken f.message f.handle f.segments ∷ (f.between ++ Grouped (g.inner ++ Protocol g.up_to.message ∷ g.up_to.later) g.copies ∷ g.rest) =
    g.split ∙ ap (λ (marks : List Mark). marks ++ Grouped g.frames g.copies ∷ g.rest) f.split
    ∙ append_assoc f.earlier (Taken f.message f.handle f.segments ∷ f.between) (Grouped g.frames g.copies ∷ g.rest)
    ∙ ap (λ (fs : List Frame). f.earlier ++ Taken f.message f.handle f.segments ∷ (f.between ++ Grouped fs g.copies ∷ g.rest)) frames in
    let made : made_in g.earlier ≡ made_in f.earlier ++ made_in f.between =
    ap made_in f.split ∙ flat_map-append made_by f.earlier (Taken f.message f.handle f.segments ∷ f.between) in (
      f.message,
      record {
        earlier = f.earlier;
        handle = f.handle;
        segments = f.segments;
        between = f.between;
        waits = f.waits;
        before = g.inner;
        shown = g.up_to.message;
        after = g.up_to.later;
        copies = g.copies;
        later = g.rest;
        split = split;
        index_is = omega (arith, ap length g.before, length-append (made_in g.earlier) g.inner, ap length made, length-append (made_in f.earlier) (made_in f.between), ap length (no_frames f.between f.waits));
      },
    )

pub each_is_shown : EachIsShown
each_is_shown side story front bytes later logs e =
    let g = each_is_grouped side story front bytes later logs e in
    shown side story front bytes logs g (since_now side g.earlier g.owed g.up_to.owes)

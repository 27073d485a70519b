-- Each message among the made frames stands in the group of one message.
use Rattle.std.proofs.Common.{◌≡◌, ℕ, true, false, List, [], ◌∷◌, ◌++◌, length, take, drop, All, Option, Some, None, ◌⊎◌, inl, inr, ⊎_elim, refl, sym, ap, ◌∙◌, subst, append_assoc, append-nil}
use Rattle.std.proofs.lemmas.Bool.{false≢true}
use Rattle.std.proofs.lemmas.Grind.{flat_map-append}
use Rattle.std.proofs.lemmas.List.{take_at, drop_at}
use Rattle.std.proofs.lemmas.List.Elements.{All-same, All-take, All-drop}
use Rattle.std.specs.Option.{IsSomeAnd}
use Rattle.wp_outside.specs.declared.kinds.Side.{Side}
use Rattle.transfer_frames.specs.declared.frame.Frame.{Frame}
use Rattle.transfer_frames.specs.declared.frame.Frame.TheVariants.{Protocol, PipeTransfer, PipeShutR, PipeShutW, Close}
use Rattle.half_model.specs.declared.notes.CopyRecord.{CopyRecord}
use Rattle.half_model.specs.Content.{Taking}
use Rattle.half_model.specs.Group.{Owed, IsGroup}
use Rattle.half_model.specs.Log.{Mark, Taken, Heard, Grouped, Dropped, LogState, log_new, is_lone, MayMake, Lawful, log_next, Logs, log_after}
use Rattle.half_model.specs.Story.{made_by, copies_by, made_in, copies_in}
use Rattle.mirror_pools.specs.Meaning.{mirror}
use Rattle.half_model.specs.StoryLaws.{now, IsStory}
use Rattle.half_model.specs.Tables.{Tables}
use Rattle.mirror_laws.specs.MessageLaws.{IsGrouped, EachIsGrouped, EachHasStoodWords}
use Rattle.mirror_laws.specs.StoodLaws.{Histories, CopyStood, AllStood, WordStood}
use Rattle.mirror_laws.proofs.Stood.{words_stood}
use Rattle.mirror_laws.proofs.Fronts.{same_head, same_tail, no_end}
use Rattle.mirror_laws.proofs.Mirroring.{speaks}

-- a message among two rows of frames is in the first one or in the second
abbrev Split : List Frame → List Frame → List Frame → List ℕ → List Frame → Type 0
Split xs ys front message later =
    ((more : List Frame) × (xs ≡ front ++ Protocol message ∷ more))
    ⊎ ((rest : List Frame) × (front ≡ xs ++ rest) × (ys ≡ rest ++ Protocol message ∷ later))

split : (xs ys front : List Frame) (message : List ℕ) (later : List Frame) → xs ++ ys ≡ front ++ Protocol message ∷ later → Split xs ys front message later
split [] ys front message later e = inr (front, refl, e)
split (x ∷ xs) ys [] message later e = inl (xs, ap (λ (f : Frame). f ∷ xs) (same_head x (Protocol message) (xs ++ ys) later e))
split (x ∷ xs) ys (frame ∷ front) message later e =
    let head = same_head x frame (xs ++ ys) (front ++ Protocol message ∷ later) e in
    ⊎_elim
    (λ inside. inl (inside.0, ap (λ (f : Frame). f ∷ xs) head ∙ ap (λ (fs : List Frame). frame ∷ fs) inside.1))
    (λ behind. inr (behind.0, ap (λ (f : Frame). f ∷ front) (sym head) ∙ ap (λ (fs : List Frame). x ∷ fs) behind.1, behind.2))
    (split xs ys front message later (same_tail x frame (xs ++ ys) (front ++ Protocol message ∷ later) e))

-- ---- stories with one mark more

logs_push : (s : LogState) (story : List Mark) (mark : Mark) → Logs s story → Lawful (log_after s story) mark → Logs s (story ++ mark ∷ [])
logs_push s [] mark logs may = (may, tt)
logs_push s (first ∷ story) mark logs may = (logs.0, logs_push (log_next s first) story mark logs.1 may)

after_push : (s : LogState) (story : List Mark) (mark : Mark) → log_after s (story ++ mark ∷ []) ≡ log_next (log_after s story) mark
after_push s [] mark = refl
after_push s (first ∷ story) mark = after_push (log_next s first) story mark

made_push : (story : List Mark) (mark : Mark) → made_in (story ++ mark ∷ []) ≡ made_in story ++ made_by mark
made_push story mark = flat_map-append made_by story (mark ∷ []) ∙ ap (λ (fs : List Frame). made_in story ++ fs) (append-nil (made_by mark))

-- ---- the group of a message

lone_is_silent : (tables : Tables) (taking : Taking) (frame : Frame) → is_lone tables taking frame ≡ true → speaks frame ≡ false
lone_is_silent tables taking (Close reason) e = refl
lone_is_silent tables taking (PipeTransfer rid bytes) e = refl
lone_is_silent tables taking (PipeShutR rid) e = refl
lone_is_silent tables taking (PipeShutW rid) e = refl
lone_is_silent tables taking _ e = absurd (false≢true e)

lone_speaks_not : (frame : Frame) (front : List Frame) (message : List ℕ) (more : List Frame) → speaks frame ≡ false → frame ∷ [] ≡ front ++ Protocol message ∷ more → ⊥
lone_speaks_not frame [] message more silent e = false≢true (sym silent ∙ ap speaks (same_head frame (Protocol message) [] more e))
lone_speaks_not frame (first ∷ front) message more silent e = no_end front (Protocol message) more (same_tail frame first [] (front ++ Protocol message ∷ more) e)

-- it is owed
owed_for : (s : LogState) (owes : Option Owed) (frames : List Frame) (copies : List CopyRecord) (front : List Frame) (message : List ℕ) (more : List Frame)
    → MayMake s owes frames copies → frames ≡ front ++ Protocol message ∷ more → (owed : Owed) × (owes ≡ Some owed) × IsGroup owed copies frames
owed_for s (Some owed) frames copies front message more may e = (owed, refl, may)
owed_for s None [] copies front message more may e = absurd may
owed_for s None (frame ∷ []) copies front message more may e = absurd (lone_speaks_not frame front message more (lone_is_silent s.tables s.taking frame may.1.may) e)
owed_for s None (frame ∷ next ∷ frames) copies front message more may e = absurd may

found : (side : Side) (done : List Mark) (mark : Mark) (rest : List Mark) (front : List Frame) (message : List ℕ) (more : List Frame)
    → IsStory side done → Lawful (now side done) mark → made_by mark ≡ front ++ Protocol message ∷ more
    → IsGrouped side (done ++ mark ∷ rest) (made_in done ++ front) message
found side done (Taken taken handle segments) rest front message more logs may e = absurd (no_end front (Protocol message) more e)
found side done (Heard frame) rest front message more logs may e = absurd (no_end front (Protocol message) more e)
found side done (Dropped rid) rest front message more logs may e = absurd (no_end front (Protocol message) more e)
found side done (Grouped frames copies) rest front message more logs may e =
    let got = owed_for (now side done) (now side done).owes frames copies front message more may e in
    let P : List Frame → Type 0 = λ fs. IsGroup got.0 copies fs in
    record {
      earlier = done;
      frames = frames;
      copies = copies;
      rest = rest;
      split = refl;
      owed = got.0;
      inner = front;
      up_to = record { is_story = logs; owes = got.1; message = message; later = more; is_group = subst P e got.2 };
      is_message = refl;
      before = refl;
    }

grouped_from : (side : Side) (done rest : List Mark) (front : List Frame) (message : List ℕ) (later : List Frame)
    → IsStory side done → Logs (now side done) rest → made_in rest ≡ front ++ Protocol message ∷ later
    → IsGrouped side (done ++ rest) (made_in done ++ front) message
grouped_from side done [] front message later logs more e = absurd (no_end front (Protocol message) later e)
grouped_from side done (mark ∷ rest) front message later logs more e =
    let L : LogState → Type 0 = λ s. Logs s rest in
    let story : (done ++ mark ∷ []) ++ rest ≡ done ++ mark ∷ rest = append_assoc done (mark ∷ []) rest in
    ⊎_elim
    (λ inside. found side done mark rest front message inside.0 logs more.0 inside.1)
    (λ behind.
    let G : List Mark → Type 0 = λ marks. IsGrouped side marks (made_in done ++ front) message in
    let F : List Frame → Type 0 = λ fs. IsGrouped side ((done ++ mark ∷ []) ++ rest) fs message in
    let frames : made_in (done ++ mark ∷ []) ++ behind.0 ≡ made_in done ++ front =
    ap (λ (fs : List Frame). fs ++ behind.0) (made_push done mark)
    ∙ append_assoc (made_in done) (made_by mark) behind.0
    ∙ ap (λ (fs : List Frame). made_in done ++ fs) (sym behind.1) in
    subst G story
    (subst F frames
    (grouped_from side (done ++ mark ∷ []) rest behind.0 message later
    (logs_push (log_new side) done mark logs more.0)
    (subst L (sym (after_push (log_new side) done mark)) more.1)
    behind.2)))
    (split (made_by mark) (made_in rest) front message later e)

pub each_is_grouped : EachIsGrouped
each_is_grouped side story front message later logs e = grouped_from side [] story front message later tt logs e

-- ---- what stood

-- what holds of a whole row holds of a part of it
all_within : {X : Type 0} (P : X → Type 0) (xs ys zs : List X) → All P (xs ++ (ys ++ zs)) → All P ys
all_within P xs ys zs h =
    let cut : ys ≡ take (length ys) (drop (length xs) (xs ++ (ys ++ zs))) =
    sym (ap (take (length ys)) (drop_at xs (ys ++ zs) (length xs) refl) ∙ take_at ys zs (length ys) refl) in
    All-same P ys (take (length ys) (drop (length xs) (xs ++ (ys ++ zs)))) cut
    (All-take P (length ys) (drop (length xs) (xs ++ (ys ++ zs))) (All-drop P (length xs) (xs ++ (ys ++ zs)) h))

group_stood : (histories : Histories) (earlier : List Mark) (frames : List Frame) (copies : List CopyRecord) (rest : List Mark)
    → AllStood histories (copies_in (earlier ++ Grouped frames copies ∷ rest)) → AllStood histories copies
group_stood histories earlier frames copies rest all =
    all_within (CopyStood histories) (copies_in earlier) copies (copies_in rest)
    (All-same (CopyStood histories) (copies_in earlier ++ (copies ++ copies_in rest)) (copies_in (earlier ++ Grouped frames copies ∷ rest))
    (sym (flat_map-append copies_by earlier (Grouped frames copies ∷ rest))) all)

pub each_has_stood_words : EachHasStoodWords
each_has_stood_words histories side story front message later logs e all =
    let at = each_is_grouped side story front message later logs e in
    let S : List Mark → Type 0 = λ marks. AllStood histories (copies_in marks) in
    let stood = group_stood histories at.earlier at.frames at.copies at.rest (subst S at.split all) in
    record {
      at = at;
      words = λ word one.
          let F : List Frame → Type 0 = λ fs. IsSomeAnd (mirror at.owed.rid fs) (WordStood histories at.owed at.copies word) in
          subst F (sym at.before) (words_stood side at.earlier at.owed at.copies at.inner histories word at.up_to stood one);
    }

-- Which frames a side may hear, by what the frames before them left, and that those of a message which its peer took are such.
use Rattle.std.proofs.Common.{◌≡◌, ℕ, ◌+◌, ◌-◌, ◌<◌, ◌≤◌, Bool, true, false, cond, ◌||◌, List, [], ◌∷◌, ◌++◌, ℤ, Option, Some, None, is_none, is_some, unwrap_or, ⊎_elim, refl, sym, ap, ◌∙◌, subst, arith}
use Rattle.std.proofs.Math.Dec.{ltb}
use Rattle.std.proofs.lemmas.Bool.{cond-false, le-ltb, ltb-true, cases_order}
use Rattle.std.proofs.lemmas.Cmp.{int_cmp_total}
use Rattle.std.proofs.lemmas.Map.Lookups.{exact_signed}
use Rattle.std.specs.List.{list_any}
use Rattle.wp_outside.specs.declared.kinds.HandleKind.{HandleKind}
use Rattle.wp_outside.specs.declared.kinds.Side.{Side}
use Rattle.wp_outside.specs.declared.kinds.Side.TheVariants.{Near, Far}
use Rattle.handle_table.specs.Table.{rid_at}
use Rattle.transfer_frames.specs.declared.cause.FrameCause.{FrameCause}
use Rattle.transfer_frames.specs.declared.frame.Frame.{Frame}
use Rattle.transfer_frames.specs.declared.frame.Frame.TheVariants.{Inject, OpenFile, ExtendFile, Fill, OpenPipe, PipeTransfer, PipeShutR, PipeShutW}
use Rattle.pipe_relay.specs.Pipes.{Rids, has_rid}
use Rattle.half_model.specs.Planning.{limit_refusal, size_frame, sized_by}
use Rattle.half_model.specs.Shm.{Tell, told_at, grows, after_tell}
use Rattle.half_model.specs.Sides.{other_side, is_own}
use Rattle.mirror_pools.specs.Sizes.{ToldSizes, MOST_FILE, MOST_FILES, size_at, with_size, total, open_cause, extend_cause, grow_cause, fill_cause}
use Rattle.half_model.proofs.FrameStates.{FrameState, frame_left, frames_left, left-append, with_kept, kind_in}
use Rattle.half_model.proofs.Maps.{put_cases, lookup_put}
use Rattle.half_model.proofs.Sane.{TellsAgain}
use Rattle.half_model.proofs.Seats.{same_place}
use Rattle.half_model.proofs.Told.{within_limits}

-- ---- which frames may be heard

-- a rid that is not open, and not of the reader's sign
pub record IsFree (side : Side) (f : FrameState) (rid : ℤ) : Type 0 where
  pub closed : kind_in f rid ≡ None
  pub apart : is_own (other_side side) rid ≡ false

-- the frame of this side, behind those that left this
abbrev pub Fine : Side → FrameState → Frame → Type 0
Fine side f (OpenFile rid size) = IsFree side f rid × (open_cause rid size f.sizes ≡ None)
Fine side f (ExtendFile rid size) = extend_cause rid size f.sizes ≡ None
Fine side f (Fill rid start end bytes) = fill_cause rid end f.sizes ≡ None
Fine side f (OpenPipe rid) = IsFree side f rid
Fine side f (Inject rids) = list_any (λ rid. is_none (kind_in f rid)) rids ≡ false
Fine side f (PipeTransfer rid bytes) = has_rid rid f.ended ≡ false
Fine side f (PipeShutW rid) = has_rid rid f.ended ≡ false
Fine side f (PipeShutR rid) = (has_rid rid f.opened ≡ true) × (has_rid rid f.shut ≡ false)
Fine side f frame = Unit {0}

abbrev pub AllFine : Side → FrameState → List Frame → Type 0
AllFine side f [] = Unit {0}
AllFine side f (frame ∷ frames) = Fine side f frame × AllFine side (frame_left frame f) frames

-- frames that lead from one state to another
pub record Goes (side : Side) (f : FrameState) (frames : List Frame) (g : FrameState) : Type 0 where
  pub fine : AllFine side f frames
  pub left : frames_left frames f ≡ g

pub goes_none : (side : Side) (f : FrameState) → Goes side f [] f
goes_none side f = record { fine = tt; left = refl }

pub fine_append : (side : Side) (f : FrameState) (xs ys : List Frame) → AllFine side f xs → AllFine side (frames_left xs f) ys → AllFine side f (xs ++ ys)
fine_append side f [] ys h l = l
fine_append side f (x ∷ xs) ys h l = (h.0, fine_append side (frame_left x f) xs ys h.1 l)

pub goes_append : (side : Side) (f g h : FrameState) (xs ys : List Frame) → Goes side f xs g → Goes side g ys h → Goes side f (xs ++ ys) h
goes_append side f g h xs ys a b =
    let P : FrameState → Type 0 = λ k. AllFine side k ys in
    record {
      fine = fine_append side f xs ys a.fine (subst P (sym a.left) b.fine);
      left = left-append xs ys f ∙ ap (frames_left ys) a.left ∙ b.left;
    }

-- ---- sizes

three_pass : (a b c : Bool) (x y z : FrameCause) → a ≡ false → b ≡ false → c ≡ false → cond a (Some x) (cond b (Some y) (cond c (Some z) None)) ≡ None
three_pass false false false x y z e f g = refl
three_pass true b c x y z e f g = absurd cc
three_pass false true c x y z e f g = absurd cc
three_pass false false true x y z e f g = absurd cc

pub open_fits : (rid : ℤ) (size : ℕ) (sizes : ToldSizes) → size_at rid sizes ≡ None → size ≤ MOST_FILE → total sizes + size ≤ MOST_FILES → open_cause rid size sizes ≡ None
open_fits rid size sizes none small few =
    three_pass _ _ _ _ _ _ (ap is_some none) (le-ltb MOST_FILE size small) (le-ltb MOST_FILES (total sizes + size) few)

extend_fits : (rid : ℤ) (size old : ℕ) (sizes : ToldSizes) → size_at rid sizes ≡ Some old → old ≤ size → size ≤ MOST_FILE → total sizes - old + size ≤ MOST_FILES → extend_cause rid size sizes ≡ None
extend_fits rid size old sizes is more small few =
    ap (λ (o : Option ℕ). grow_cause o size (total sizes)) is
    ∙ three_pass _ _ _ _ _ _ (le-ltb size old more) (le-ltb MOST_FILE size small) (le-ltb MOST_FILES (total sizes - old + size) few)

-- a size that a file was told before grows, or stays
pub again_goes : (side : Side) (f : FrameState) (told : ToldSizes) (tell : Option Tell) → f.sizes ≡ told → limit_refusal tell told ≡ None → TellsAgain told tell
    → Goes side f (sized_by tell told) (record f { sizes = after_tell tell told })
again_goes side f told None is limited again = record { fine = tt; left = ap (λ (z : ToldSizes). record f { sizes = z }) is }
again_goes side f told (Some tell) is limited again = by (grows tell told) refl
  where
    by : (g : Bool) → grows tell told ≡ g
        → Goes side f (cond g (size_frame tell ∷ []) []) (record f { sizes = cond g (with_size tell.file.rid tell.size told) told })
    by false e = record { fine = tt; left = ap (λ (z : ToldSizes). record f { sizes = z }) is }
    by true e =
        let known = again tell refl in
        let limits = within_limits tell told limited in
        let at : told_at tell.file.rid told ≡ known.1.0 = ap (λ (o : Option ℕ). unwrap_or o 0) known.1.1 in
        let less : told_at tell.file.rid told < tell.size = ltb-true _ _ (sym (ap (λ (b : Bool). b || ltb (told_at tell.file.rid told) tell.size) known.0) ∙ e) in
        let F : Frame → Type 0 = λ frame. Goes side f (frame ∷ []) (record f { sizes = with_size tell.file.rid tell.size told }) in
        let S : ToldSizes → Type 0 = λ z. extend_cause tell.file.rid tell.size z ≡ None in
        subst F (sym (cond-false tell.is_new (OpenFile tell.file.rid tell.size) (ExtendFile tell.file.rid tell.size) known.0)) (record {
          fine = (subst S (sym is) (extend_fits tell.file.rid tell.size known.1.0 told known.1.1 (omega (arith, at, less)) (omega (arith, limits.0)) (omega (arith, limits.1, at, less))), tt);
          left = ap (λ (z : ToldSizes). record f { sizes = with_size tell.file.rid tell.size z }) is;
        })

-- ---- what frames left, beside what the side that made them has

pub record Agrees (side : Side) (f : FrameState) (told : ToldSizes) (count : ℕ) (own left closed : Rids) : Type 0 where
  pub sizes : f.sizes ≡ told
  pub given : (rid : ℤ) (kind : HandleKind) → kind_in f rid ≡ Some kind → (place : ℕ) × (place < count) × (rid ≡ rid_at side place)
  pub kept : (place : ℕ) → place < count → is_none (kind_in f (rid_at side place)) ≡ false
  pub opened : f.opened ≡ own
  pub ended : (rid : ℤ) → has_rid rid f.ended ≡ true → has_rid rid closed ≡ true
  pub shut : f.shut ≡ left

rid_apart : (side : Side) (place : ℕ) → is_own (other_side side) (rid_at side place) ≡ false
rid_apart Near place = le-ltb (place + 1) 0 (omega arith)
rid_apart Far place = refl

-- the next rid is free
pub next_free : (side : Side) (f : FrameState) (told : ToldSizes) (count : ℕ) (own left closed : Rids) → Agrees side f told count own left closed → IsFree side f (rid_at side count)
next_free side f told count own left closed h = record { closed = by (kind_in f (rid_at side count)) refl; apart = rid_apart side count }
  where
    by : (kind : Option HandleKind) → kind_in f (rid_at side count) ≡ kind → kind ≡ None
    by None e = refl
    by (Some kind) e =
        let at = h.given (rid_at side count) kind e in
        let same = same_place side count at.0 at.2 in
        absurd (omega (arith, same, at.1))

-- it is opened
pub next_kept : (side : Side) (f : FrameState) (kind : HandleKind) (count : ℕ)
    → ((rid : ℤ) (k : HandleKind) → kind_in f rid ≡ Some k → (place : ℕ) × (place < count) × (rid ≡ rid_at side place))
    → ((place : ℕ) → place < count → is_none (kind_in f (rid_at side place)) ≡ false)
    → ((rid : ℤ) (k : HandleKind) → kind_in (with_kept (rid_at side count) kind f) rid ≡ Some k → (place : ℕ) × (place < count + 1) × (rid ≡ rid_at side place))
    × ((place : ℕ) → place < count + 1 → is_none (kind_in (with_kept (rid_at side count) kind f) (rid_at side place)) ≡ false)
next_kept side f kind count given kept = (
  λ rid k e. ⊎_elim
      (λ put. (count, omega arith, put.0))
      (λ same. let at = given rid k (sym same ∙ e) in (at.0, omega (arith, at.1), at.2))
      (put_cases int_cmp_total exact_signed f.kept (rid_at side count) rid kind),
  λ place l. ⊎_elim
      (λ put. ap is_none put.1)
      (λ same. ⊎_elim
      (λ last. ap (λ (n : ℕ). is_none (kind_in (with_kept (rid_at side count) kind f) (rid_at side n))) last
      ∙ ap is_none (lookup_put int_cmp_total exact_signed f.kept (rid_at side count) kind))
      (λ apart. ⊎_elim (λ before. ap is_none same ∙ kept place before) (λ after. absurd (omega (arith, l, after))) apart)
      (cases_order place count))
      (put_cases int_cmp_total exact_signed f.kept (rid_at side count) (rid_at side place) kind),
)

-- a rid that is open may be injected
pub inject_goes : (side : Side) (f : FrameState) (rid : ℤ) → is_none (kind_in f rid) ≡ false → Goes side f (Inject (rid ∷ []) ∷ []) f
inject_goes side f rid known = record { fine = (ap (λ (b : Bool). b || false) known, tt); left = refl }

-- What is given is the receipt of the next copy; and copies that are settled stood.
use Rattle.std.proofs.Common.{◌≡◌, suc, ◌-◌, List, [], ◌∷◌, ◌++◌, drop, length, Contains, Some, None, refl, sym, ap, subst, ◌∙◌, append_assoc, arith}
use Rattle.std.proofs.lemmas.List.{take_all}
use Rattle.std.proofs.lemmas.List.Elements.{All-contains, All-from_recursion}
use Rattle.std.specs.List.{AllByRecursion}
use Rattle.pool_words.specs.declared.views.Load.{Load}
use Rattle.pool_words.specs.History.{HasStood}
use Rattle.half_model.specs.declared.items.PeerOut.{PeerOut}
use Rattle.half_model.specs.declared.notes.CopyRecord.{CopyRecord}
use Rattle.mirror_laws.specs.StoodLaws.{Histories, history_of, loads_of, CopyStood}
use Rattle.side_model.specs.Events.{Gave}
use Rattle.side_model.specs.Follows.{AreReceipts, IsReceiptOf}
use Rattle.side_model.specs.Shows.{first_item}
use Rattle.side_model.specs.Steps.{step, gone}
use Rattle.side_model.specs.Trails.{TrailState, RunsOn, Keeps, trail_step}
use Rattle.side_model.proofs.Sounds.{all_append}
use Rattle.copy_laws.specs.Given.{given_copies, Settlements, AreStood, IsSettled, ItemIsSettled, SettlesMore, TrailSettled}
use Rattle.copy_laws.specs.GivenLaws.{GivesCopy, GaveIsCopy, AllAreGiven, GaveIsSettled, MoreIsSettled, SettledHasStood}
use Rattle.copy_laws.proofs.Lists.{before_last, ends_are, CopyAt, copy_at}

-- ---- an item is given

receipts_left : (old : TrailState) (items receipts : List PeerOut) → old.now.live.items ≡ items → (gone items old.now.live).receipts ≡ receipts
    → given_copies (trail_step Gave old) ≡ before_last old.book.trail.copies receipts
unfolding step
receipts_left old items receipts i r =
    ap (λ (them : List PeerOut). before_last old.book.trail.copies (gone them old.now.live).receipts) i
    ∙ ap (λ (them : List PeerOut). before_last old.book.trail.copies them) r

gives_copy : (old : TrailState) (item : PeerOut) (more : List PeerOut) → Keeps old → old.fault ≡ None → old.now.live.items ≡ [] → old.now.live.receipts ≡ item ∷ more → GivesCopy item old
gives_copy old item more k none i e =
    let copies : List CopyRecord = old.book.trail.copies in
    let r : RunsOn old = k.runs none in
    let them : AreReceipts copies (r.follows.receipts.gone ++ item ∷ more) =
    subst (λ (left : List PeerOut). AreReceipts copies (r.follows.receipts.gone ++ left)) e r.follows.receipts.all in
    let it : CopyAt copies item more = copy_at r.follows.receipts.gone copies item more them in
    let before : before_last copies (item ∷ more) ≡ it.before =
    ends_are it.before copies (item ∷ more) (record { left = it.copy ∷ it.after; row = it.row; count = ap suc it.count }) in
    let behind : before_last copies more ≡ it.before ++ it.copy ∷ [] =
    ends_are (it.before ++ it.copy ∷ []) copies more (record { left = it.after; row = it.row ∙ sym (append_assoc it.before (it.copy ∷ []) it.after); count = it.count }) in
    let was : given_copies old ≡ it.before = ap (λ (left : List PeerOut). before_last copies left) e ∙ before in
    record {
      copy = it.copy;
      is = it.is;
      row = receipts_left old [] more i (ap (drop 1) e) ∙ behind ∙ sym (ap (λ (start : List CopyRecord). start ++ it.copy ∷ []) was);
    }

pub gave_is_copy : GaveIsCopy
gave_is_copy = record {
  item = λ old item more i. receipts_left old (item ∷ more) old.now.live.receipts i refl;
  receipt = gives_copy;
}

pub all_are_given : AllAreGiven
all_are_given t e =
    ap (λ (left : List PeerOut). before_last t.book.trail.copies left) e
    ∙ take_all (length t.book.trail.copies - 0) t.book.trail.copies (omega arith)

-- ---- settled

all_more : {X : Type 0} (P Q : X → Type 0) (xs : List X) → ((x : X) → P x → Q x) → AllByRecursion P xs → AllByRecursion Q xs
all_more P Q [] f h = tt
all_more P Q (x ∷ xs) f h = (f x h.0, all_more P Q xs f h.1)

copies_more : (settled more : Settlements) (copies : List CopyRecord) → SettlesMore settled more → AllByRecursion (IsSettled settled) copies → AllByRecursion (IsSettled more) copies
copies_more settled more copies g h =
    all_more (IsSettled settled) (IsSettled more) copies
    (λ copy k. all_more (λ (it : Load). Contains (settled copy.file copy.segment) it) (λ (it : Load). Contains (more copy.file copy.segment) it) (loads_of copy) (g copy.file copy.segment) k) h

pub more_is_settled : MoreIsSettled
more_is_settled settled more t g h = copies_more settled more (given_copies t) g h

copy_settled : (settled : Settlements) (copy : CopyRecord) (item : PeerOut) → IsReceiptOf copy item → ItemIsSettled settled item → IsSettled settled copy
copy_settled settled copy item is h =
    subst (λ (loads : List Load). AllByRecursion (λ it. Contains (settled copy.file copy.segment) it) loads) is.loads (subst (ItemIsSettled settled) is.is h)

pub gave_is_settled : GaveIsSettled
gave_is_settled settled more old item k none found h g own = by_items old.now.live.items old.now.live.receipts refl refl found
  where
    same : given_copies (trail_step Gave old) ≡ given_copies old → TrailSettled more (trail_step Gave old)
    same e = subst (AllByRecursion (IsSettled more)) (sym e) (copies_more settled more (given_copies old) g h)

    by_copy : GivesCopy item old → TrailSettled more (trail_step Gave old)
    by_copy c =
        subst (AllByRecursion (IsSettled more)) (sym c.row)
        (all_append (IsSettled more) (given_copies old) (c.copy ∷ []) (copies_more settled more (given_copies old) g h) (copy_settled more c.copy item c.is own, tt))

    by_items : (items receipts : List PeerOut) → old.now.live.items ≡ items → old.now.live.receipts ≡ receipts → first_item items receipts ≡ Some item → TrailSettled more (trail_step Gave old)
    by_items [] [] i r e = absurd (let never : None ≡ Some item = e in cc)
    by_items [] (receipt ∷ receipts) i r e =
        let this : receipt ≡ item = (let it : Some receipt ≡ Some item = e in cc) in
        by_copy (gives_copy old item receipts k none i (r ∙ ap (λ (one : PeerOut). one ∷ receipts) this))
    by_items (first ∷ items) receipts i r e = same (gave_is_copy.item old first items i)

-- ---- stood

loads_stood : (settled : Settlements) (histories : Histories) (copy : CopyRecord) → AreStood settled histories → IsSettled settled copy → CopyStood histories copy
loads_stood settled histories copy stood h =
    All-from_recursion (HasStood (history_of histories copy)) (loads_of copy)
    (all_more (λ (it : Load). Contains (settled copy.file copy.segment) it) (HasStood (history_of histories copy)) (loads_of copy)
    (λ it k. All-contains (HasStood (history_of histories copy)) (settled copy.file copy.segment) it (stood copy.file copy.segment) k) h)

pub settled_has_stood : SettledHasStood
settled_has_stood settled histories t stood h =
    All-from_recursion (CopyStood histories) (given_copies t)
    (all_more (IsSettled settled) (CopyStood histories) (given_copies t) (λ copy k. loads_stood settled histories copy stood k) h)

-- The records follow a proxy through its copies, what its peer is given, and the wish to close.
use Rattle.std.proofs.Common.{◌≡◌, ℕ, ◌+◌, List, [], ◌∷◌, ◌++◌, Option, Some, None, Bool, true, false, ◌&&◌, ◌==◌, cond, map, length, drop, refl, sym, ap, subst, ◌∙◌, arith, append_assoc}
use Rattle.std.proofs.lemmas.Bool.{eqb-true}
use Rattle.std.proofs.lemmas.List.Sums.{sum_by_push}
use Rattle.std.specs.List.{AllByRecursion}
use Rattle.std.specs.Prelude.{is_none, count_by}
use Rattle.transfer_frames.specs.Numbers.{IsWord}
use Rattle.half_model.specs.declared.items.PeerOut.{PeerOut}
use Rattle.half_model.specs.declared.items.PeerOut.TheVariants as outputs
use Rattle.half_model.specs.Group.{Owed}
use Rattle.half_model.specs.Jobs.{Job, Done, IsOut, IsBack, lent, handed, waits, is_done, is_out}
use Rattle.pool_words.specs.Views.{load, sights}
use Rattle.half_model.specs.declared.notes.CopyRecord.{CopyRecord}
use Rattle.half_model.specs.Turn.{waits_in}
use Rattle.half_model.specs.TurnLaws.{log_of}
use Rattle.half_model.proofs.JobLaws.{jobs_stay}
use Rattle.side_model.specs.Books.{Book, grown, given_item}
use Rattle.side_model.specs.Events.{Handed, Lent, Gave, Asks, Told}
use Rattle.side_model.specs.Follows.{Follows, JobsFollow, HasReceipt, ClosingFollows, AreReceipts, is_message}
use Rattle.side_model.specs.Shows.{first_item, has_made_close}
use Rattle.side_model.specs.Sound.{HasLoads}
use Rattle.side_model.specs.State.{Now, Closing, Open, Asked, Made}
use Rattle.side_model.specs.Steps.{step, gone, asked, with_kept, with_live}

-- ---- copies

both_true : (a b : Bool) → (a && b) ≡ true → (a ≡ true) × (b ≡ true)
both_true true b e = (refl, e)
both_true false b e = absurd cc

done_parts : (done : Done) (job : Job) → is_done done job ≡ true → (job.part.first ≡ done.first) × (job.low ≡ done.low)
done_parts done job e =
    let id : (is_out job.state ≡ true) × ((job.id == done.id && (job.part.first == done.first && (job.part.count == length done.words && (job.low == done.low && job.pool == done.receipt.number)))) ≡ true) = both_true (is_out job.state) _ e in
    let first : ((job.id == done.id) ≡ true) × ((job.part.first == done.first && (job.part.count == length done.words && (job.low == done.low && job.pool == done.receipt.number))) ≡ true) = both_true (job.id == done.id) _ id.1 in
    let count : ((job.part.first == done.first) ≡ true) × ((job.part.count == length done.words && (job.low == done.low && job.pool == done.receipt.number)) ≡ true) = both_true (job.part.first == done.first) _ first.1 in
    let low : ((job.part.count == length done.words) ≡ true) × ((job.low == done.low && job.pool == done.receipt.number) ≡ true) = both_true (job.part.count == length done.words) _ count.1 in
    let last : ((job.low == done.low) ≡ true) × ((job.pool == done.receipt.number) ≡ true) = both_true (job.low == done.low) _ low.1 in
    (eqb-true job.part.first done.first count.0, eqb-true job.low done.low last.0)

-- what is handed back is of one of the jobs, and its receipt is for just its words
receipt_handed : (done : Done) (jobs : List Job) → HasLoads done → AllByRecursion (λ job. HasReceipt job job.state) jobs → AllByRecursion (λ job. HasReceipt job job.state) (handed done jobs)
receipt_handed done [] l h = tt
receipt_handed done (job ∷ jobs) l h = go (is_done done job) refl (receipt_handed done jobs l h.1)
  where
    go : (b : Bool) → is_done done job ≡ b → AllByRecursion (λ job. HasReceipt job job.state) (handed done jobs) → AllByRecursion (λ job. HasReceipt job job.state) (cond b (record job { state = IsBack done.words done.receipt } ∷ jobs) (job ∷ handed done jobs))
    go true e rest =
        let same : (job.part.first ≡ done.first) × (job.low ≡ done.low) = done_parts done job e in (
          subst (λ (n : ℕ). done.receipt.loads ≡ map (load job.low done.receipt.high) (sights n done.words)) (sym same.0)
              (subst (λ (n : ℕ). done.receipt.loads ≡ map (load n done.receipt.high) (sights done.first done.words)) (sym same.1) l),
          h.1,
        )
    go false e rest = (h.0, rest)

receipt_lent : (jobs : List Job) → AllByRecursion (λ job. HasReceipt job job.state) jobs → AllByRecursion (λ job. HasReceipt job job.state) (lent jobs)
receipt_lent [] h = tt
receipt_lent (job ∷ jobs) h = go (waits job.state) (receipt_lent jobs h.1)
  where
    go : (b : Bool) → AllByRecursion (λ job. HasReceipt job job.state) (lent jobs) → AllByRecursion (λ job. HasReceipt job job.state) (cond b (record job { state = IsOut } ∷ jobs) (job ∷ lent jobs))
    go true rest = (tt, h.1)
    go false rest = (h.0, rest)

jobs_handed : (owes : Option Owed) (jobs : List Job) (done : Done) → HasLoads done → JobsFollow owes jobs → JobsFollow owes (handed done jobs)
jobs_handed None jobs done l h = tt
jobs_handed (Some owed) jobs done l h = (jobs_stay.handed owed jobs done h.0, receipt_handed done jobs l h.1)

jobs_lent : (owes : Option Owed) (jobs : List Job) → JobsFollow owes jobs → JobsFollow owes (lent jobs)
jobs_lent None jobs h = tt
jobs_lent (Some owed) jobs h = (jobs_stay.lent owed jobs h.0, receipt_lent jobs h.1)

with_jobs : (s : Now) (book : Book) (jobs : List Job) → Follows s book → JobsFollow s.live.sending.owes jobs → Follows (with_kept (λ kept. record kept { jobs = jobs }) s) book
with_jobs s book jobs f j = record {
  story = f.story;
  tells = f.tells;
  log = f.log;
  after = f.after;
  jobs = j;
  closes = f.closes;
  link = f.link;
  ring = f.ring;
  accepted = f.accepted;
  acknowledged = f.acknowledged;
  closed = f.closed;
  few = f.few;
  taken = f.taken;
  token = f.token;
  numbers = f.numbers;
  bytes = f.bytes;
  items = f.items;
  receipts = f.receipts;
}

pub follows_handed : (s : Now) (book : Book) (done : Done) → Follows s book → HasLoads done → Follows (step (Handed done) s) (grown (Handed done) s book)
unfolding step
follows_handed s book done f l = with_jobs s book (handed done s.kept.jobs) f (jobs_handed s.live.sending.owes s.kept.jobs done l f.jobs)

pub follows_lent : (s : Now) (book : Book) → Follows s book → Follows (step Lent s) (grown Lent s book)
unfolding step
follows_lent s book f = with_jobs s book (lent s.kept.jobs) f (jobs_lent s.live.sending.owes s.kept.jobs f.jobs)

-- ---- items

abbrev message_count : PeerOut → ℕ
message_count item = cond (is_message item) 1 0

given_one : (item : PeerOut) (gone : List PeerOut) (given : ℕ) → given ≡ count_by is_message gone → given_item (Some item) given ≡ count_by is_message (gone ++ item ∷ [])
given_one item gone given e = by_item item ∙ ap (λ n. n + message_count item) e ∙ sym (sum_by_push message_count gone item)
  where
    by_item : (item : PeerOut) → given_item (Some item) given ≡ given + message_count item
    by_item (outputs.Bytes message) = refl
    by_item (outputs.Handle handle) = omega arith
    by_item (outputs.Opened rid size) = omega arith
    by_item (outputs.Grown rid size) = omega arith
    by_item (outputs.Filled rid start bytes) = omega arith
    by_item (outputs.Pipe item) = omega arith
    by_item (outputs.Receipt number segment receipt) = omega arith

-- the first receipt left is one
receipt_at : (copies : List CopyRecord) (gone left : List PeerOut) (item : PeerOut) → AreReceipts copies (gone ++ item ∷ left) → (given : ℕ) → given_item (Some item) given ≡ given
receipt_at [] [] left item h given = absurd h
receipt_at (copy ∷ copies) [] left item h given = ap (λ (x : PeerOut). given_item (Some x) given) h.0.is
receipt_at [] (x ∷ gone) left item h given = absurd h
receipt_at (copy ∷ copies) (x ∷ gone) left item h given = receipt_at copies gone left item h.1 given

gone_item : (s : Now) (book : Book) (item : PeerOut) (items : List PeerOut) → s.live.items ≡ item ∷ items → Follows s book
    → Follows (with_live (gone (item ∷ items)) s) (record book { trail = record book.trail { given = given_item (Some item) book.trail.given } })
gone_item s book item items e f = record {
  story = f.story;
  tells = record { side_is = f.tells.side_is; taken = f.tells.taken; made = f.tells.made; copies = f.tells.copies; accepted = f.tells.accepted; acknowledged = f.tells.acknowledged; order = f.tells.order };
  log = f.log;
  after = f.after;
  jobs = f.jobs;
  closes = f.closes;
  link = f.link;
  ring = f.ring;
  accepted = f.accepted;
  acknowledged = f.acknowledged;
  closed = f.closed;
  few = f.few;
  taken = f.taken;
  token = f.token;
  numbers = f.numbers;
  bytes = f.bytes;
  items = record {
    gone = f.items.gone ++ item ∷ [];
    row = append_assoc f.items.gone (item ∷ []) items ∙ ap (λ left. f.items.gone ++ left) (sym e) ∙ f.items.row;
    counts = given_one item f.items.gone book.trail.given f.items.counts;
  };
  receipts = f.receipts;
}

gone_receipt : (s : Now) (book : Book) (receipt : PeerOut) (receipts : List PeerOut) → s.live.receipts ≡ receipt ∷ receipts → Follows s book
    → Follows (with_live (λ live. record live { receipts = receipts }) s) book
gone_receipt s book receipt receipts e f = record {
  story = f.story;
  tells = f.tells;
  log = f.log;
  after = f.after;
  jobs = f.jobs;
  closes = f.closes;
  link = f.link;
  ring = f.ring;
  accepted = f.accepted;
  acknowledged = f.acknowledged;
  closed = f.closed;
  few = f.few;
  taken = f.taken;
  token = f.token;
  numbers = f.numbers;
  bytes = f.bytes;
  items = f.items;
  receipts = record {
    gone = f.receipts.gone ++ receipt ∷ [];
    all = subst (λ (items : List PeerOut). AreReceipts book.trail.copies items) (ap (λ left. f.receipts.gone ++ left) e ∙ sym (append_assoc f.receipts.gone (receipt ∷ []) receipts)) f.receipts.all;
  };
}

follows_gone : (s : Now) (book : Book) (items receipts : List PeerOut) → s.live.items ≡ items → s.live.receipts ≡ receipts → Follows s book
    → Follows (with_live (gone items) s) (record book { trail = record book.trail { given = given_item (first_item items receipts) book.trail.given } })
follows_gone s book (item ∷ items) receipts e k f = gone_item s book item items e f
follows_gone s book [] [] e k f =
    subst (λ (rs : List PeerOut). Follows (with_live (λ live. record live { receipts = rs }) s) book) (k ∙ ap (drop 1) (sym k)) f
follows_gone s book [] (receipt ∷ receipts) e k f =
    let all : AreReceipts book.trail.copies (f.receipts.gone ++ receipt ∷ receipts) = subst (λ (left : List PeerOut). AreReceipts book.trail.copies (f.receipts.gone ++ left)) k f.receipts.all in
    let same : book.trail.given ≡ given_item (Some receipt) book.trail.given = sym (receipt_at book.trail.copies f.receipts.gone receipts receipt all book.trail.given) in
    subst (λ (n : ℕ). Follows (with_live (gone []) s) (record book { trail = record book.trail { given = n } })) same
    (subst (λ (rs : List PeerOut). Follows (with_live (λ live. record live { receipts = rs }) s) book) (ap (drop 1) (sym k)) (gone_receipt s book receipt receipts k f))

pub follows_gave : (s : Now) (book : Book) → Follows s book → Follows (step Gave s) (grown Gave s book)
unfolding step
follows_gave s book f = follows_gone s book s.live.items s.live.receipts refl refl f

-- ---- to close, and notes

closes_asked : (reason : ℕ) (closing : Closing) (a b : Bool) → IsWord reason → ClosingFollows closing a b → ClosingFollows (asked reason closing) a b
closes_asked reason Open a b w h = w
closes_asked reason (Asked other) a b w h = h
closes_asked reason Made a b w h = h

asked_made : (reason : ℕ) (closing : Closing) → has_made_close closing ≡ has_made_close (asked reason closing)
asked_made reason Open = refl
asked_made reason (Asked other) = refl
asked_made reason Made = refl

pub follows_asks : (s : Now) (book : Book) (reason : ℕ) → Follows s book → IsWord reason → Follows (step (Asks reason) s) (grown (Asks reason) s book)
unfolding step
follows_asks s book reason f w = record {
  story = f.story;
  tells = f.tells;
  log = f.log;
  after = f.after ∙ ap (log_of s.live.tables s.live.sending s.live.taking) (asked_made reason s.kept.closing);
  jobs = f.jobs;
  closes = closes_asked reason s.kept.closing (is_none s.live.sending.owes) (waits_in s.live.sending) w f.closes;
  link = f.link;
  ring = f.ring;
  accepted = f.accepted;
  acknowledged = f.acknowledged;
  closed = f.closed;
  few = f.few;
  taken = f.taken;
  token = f.token;
  numbers = f.numbers;
  bytes = f.bytes;
  items = f.items;
  receipts = f.receipts;
}

pub follows_told : (s : Now) (book : Book) → Follows s book → Follows (step Told s) (grown Told s book)
unfolding step
follows_told s book f = record {
  story = f.story;
  tells = f.tells;
  log = f.log;
  after = f.after;
  jobs = f.jobs;
  closes = f.closes;
  link = f.link;
  ring = f.ring;
  accepted = f.accepted;
  acknowledged = f.acknowledged;
  closed = f.closed;
  few = f.few;
  taken = f.taken;
  token = f.token;
  numbers = f.numbers;
  bytes = f.bytes;
  items = f.items;
  receipts = f.receipts;
}

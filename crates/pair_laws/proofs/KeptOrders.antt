-- What a sender had heard before a message, the hearer had shown before it: by the two orders alone.
use Rattle.std.proofs.Common.{◌≡◌, ℕ, ◌+◌, ◌≤◌, suc, true, List, [], ◌∷◌, ◌++◌, Option, Some, None, map, take, option_to_list, length, refl, sym, ap, ◌∙◌, subst, arith, append_assoc, append-nil, length-append, Result, Ok, Err, inl, inr}
use Rattle.std.proofs.lemmas.Bool.{cases_order}
use Rattle.std.proofs.lemmas.Grind.{flat_map-append}
use Rattle.std.proofs.lemmas.List.Elements.{filter_map-append}
use Rattle.std.specs.List.{AllByRecursion}
use Rattle.plain_lists.specs.Fronts.{IsFront}
use Rattle.plain_lists.proofs.FrontLemmas.{IsFront_nil, IsFront_first, IsFront_length, IsFront_longer, IsFront_trans}
use Rattle.wp_outside.specs.declared.kinds.Side.{Side}
use Rattle.wp_outside.specs.declared.kinds.Side.TheVariants.{Near, Far}
use Rattle.wl_wire.specs.declared.faults.ObjectFault.{ObjectFault}
use Rattle.wl_tables.specs.Ways.{own_way}
use Rattle.wl_tables.specs.declared.way.Way.{Way}
use Rattle.wl_tables.specs.declared.way.Way.TheVariants.{Request, Event}
use Rattle.wl_objects.specs.Registry.{ObjectsState, first_state, View, view, shown_then, visible}
use Rattle.wl_objects.specs.Tracking.{Admission, step}
use Rattle.transfer_frames.specs.declared.frame.Frame.{Frame}
use Rattle.transfer_frames.specs.declared.frame.Frame.TheVariants.{Protocol, Inject, OpenFile, ExtendFile, Fill, OpenPipe, PipeTransfer, PipeShutR, PipeShutW, Ack, Restart, Close}
use Rattle.half_model.specs.Group.{Owed}
use Rattle.half_model.specs.Log.{Mark, Taken, Heard, Grouped, Dropped, LogState, log_new, log_next, Logs, log_after}
use Rattle.half_model.specs.Sides.{other_side, other_way}
use Rattle.half_model.specs.Story.{messages_of, messages_in, heard_in, accepted_in, made_in, owed_messages, order_in, passed_by, shown_of}
use Rattle.half_model.specs.StoryLaws.{now, IsStory}
use Rattle.half_model.proofs.Expecting.{HasOne, gives}
use Rattle.half_model.proofs.ShownLaws.{shown_in_order, cut_alone, made_messages}
use Rattle.half_model.proofs.Sound.{sound_now}
use Rattle.pair_model.specs.Rows.{counted}
use Rattle.pair_laws.specs.Orders.{goes_by, Shows, up_to_taken, OrdersAreKept}
use Rattle.pair_laws.specs.Passing.{if_way, of_way, shown_by}
use Rattle.pair_laws.proofs.Auditing.{other_hears}
use Rattle.pair_laws.proofs.Counting.{accepted_heard, made_append}
use Rattle.pair_laws.proofs.Orders.{heard_was_made}
use Rattle.pair_laws.proofs.Passing.{order_is_told, other_in_order, shown_in}
use Rattle.pair_laws.proofs.Taking.{each_is_shown, no_frames}

-- ---- what is shown of a longer order begins with what is shown of a front of it

visible_then : (told : Result Admission ObjectFault) (way : Way) (hidden : List (ℕ × ℕ)) (message : List ℕ) (xs ys : List (Way × List ℕ))
    → ((s : ObjectsState) → IsFront (visible s xs) (visible s (xs ++ ys)))
    → IsFront (shown_then told way hidden message (λ next. visible next xs)) (shown_then told way hidden message (λ next. visible next (xs ++ ys)))
visible_then (Err fault) way hidden message xs ys more = IsFront_nil []
visible_then (Ok done) Request hidden message xs ys more = more (record { tracked = done.objects; hidden = hidden })
visible_then (Ok done) Event hidden message xs ys more =
    let seen : View = view (record { tracked = done.objects; hidden = hidden }) message in
    let f = more (record { tracked = done.objects; hidden = seen.hidden }) in
    record {
      rest = f.rest;
      is = append_assoc (option_to_list seen.shown) (visible (record { tracked = done.objects; hidden = seen.hidden }) xs) f.rest
          ∙ ap (λ (ms : List (List ℕ)). option_to_list seen.shown ++ ms) f.is;
    }

visible_front : (s : ObjectsState) (xs ys : List (Way × List ℕ)) → IsFront (visible s xs) (visible s (xs ++ ys))
visible_front s [] ys = IsFront_nil (visible s ys)
visible_front s (x ∷ xs) ys = visible_then (step x.0 s.tracked x.1) x.0 s.hidden x.1 xs ys (λ next. visible_front next xs ys)

shown_append : (side : Side) (xs ys : List (Way × List ℕ)) → IsFront (shown_by side xs) (shown_by side (xs ++ ys))
shown_append Near xs ys = record { rest = of_way Request ys; is = sym (filter_map-append (if_way Request) xs ys) }
shown_append Far xs ys = visible_front first_state xs ys

shown_front : (side : Side) {xs ys : List (Way × List ℕ)} → IsFront xs ys → IsFront (shown_by side xs) (shown_by side ys)
shown_front side {xs} {ys} f = subst (λ (zs : List (Way × List ℕ)). IsFront (shown_by side xs) (shown_by side zs)) f.is (shown_append side xs f.rest)

way_front : (way : Way) {xs ys : List (Way × List ℕ)} → IsFront xs ys → IsFront (of_way way xs) (of_way way ys)
way_front way {xs} {ys} f = record { rest = of_way way f.rest; is = sym (filter_map-append (if_way way) xs f.rest) ∙ ap (of_way way) f.is }

order_append : (side : Side) (xs ys : List Mark) → order_in side (xs ++ ys) ≡ order_in side xs ++ order_in side ys
order_append side xs ys = flat_map-append (passed_by side) xs ys

-- ---- a message that was taken

logs_up_to : (s : LogState) (earlier later : List Mark) → Logs s (earlier ++ later) → Logs s earlier
logs_up_to s [] later logs = tt
logs_up_to s (mark ∷ earlier) later logs = (logs.0, logs_up_to (log_next s mark) earlier later logs.1)

logs_behind : (s : LogState) (earlier later : List Mark) → Logs s (earlier ++ later) → Logs (log_after s earlier) later
logs_behind s [] later logs = logs
logs_behind s (mark ∷ earlier) later logs = logs_behind (log_next s mark) earlier later logs.1

after_both : (s : LogState) (xs ys : List Mark) → log_after s (xs ++ ys) ≡ log_after (log_after s xs) ys
after_both s [] ys = refl
after_both s (x ∷ xs) ys = after_both (log_next s x) xs ys

-- marks that go by leave what is owed
owes_still : (s : LogState) (marks : List Mark) → AllByRecursion (λ mark. goes_by mark ≡ true) marks → (log_after s marks).owes ≡ s.owes
owes_still s [] h = refl
owes_still s (Taken message handle segments ∷ marks) h = absurd cc
owes_still s (Heard frame ∷ marks) h = owes_still (log_next s (Heard frame)) marks h.1
owes_still s (Grouped frames copies ∷ marks) h = absurd cc
owes_still s (Dropped rid ∷ marks) h = owes_still (log_next s (Dropped rid)) marks h.1

none_or_one : (owes : Option Owed) → length (owed_messages owes) ≤ 1
none_or_one None = omega arith
none_or_one (Some owed) = by owed.shown
  where
    by : (shown : Option (List ℕ)) → length (option_to_list shown) ≤ 1
    by None = omega arith
    by (Some message) = omega arith

one_among : (xs ys : List Frame) (bytes : List ℕ) → AllByRecursion HasOne (xs ++ Protocol bytes ∷ ys) → HasOne (Protocol bytes)
one_among [] ys bytes h = h.0
one_among (x ∷ xs) ys bytes h = one_among xs ys bytes h.1

-- its frame among all that were made
made_shows : (story : List Mark) (message : List ℕ) (index : ℕ) (shows : Shows story message index) → made_in story ≡ (made_in shows.earlier ++ shows.before) ++ Protocol shows.shown ∷ (shows.after ++ made_in shows.later)
made_shows story message index shows =
    let frames : List Frame = shows.before ++ Protocol shows.shown ∷ shows.after in
    let group : List Mark = Grouped frames shows.copies ∷ shows.later in
    ap made_in shows.split
    ∙ made_append shows.earlier (Taken message shows.handle shows.segments ∷ (shows.between ++ group))
    ∙ ap (λ (fs : List Frame). made_in shows.earlier ++ fs) (made_append shows.between group ∙ ap (λ (fs : List Frame). fs ++ made_in group) (no_frames shows.between shows.waits))
    ∙ ap (λ (fs : List Frame). made_in shows.earlier ++ fs) (append_assoc shows.before (Protocol shows.shown ∷ shows.after) (made_in shows.later))
    ∙ sym (append_assoc (made_in shows.earlier) shows.before (Protocol shows.shown ∷ (shows.after ++ made_in shows.later)))

-- so many messages are shown before it, among them none in its own group, and one more with it
record ShownAt (side : Side) (story : List Mark) (message : List ℕ) (index : ℕ) (shows : Shows story message index) : Type 0 where
  count : length (shown_of side shows.earlier) ≡ length (messages_in (made_in shows.earlier ++ shows.before))
  more : length (shown_of side (up_to_taken shows)) ≡ suc (length (shown_of side shows.earlier))

shown_at : (side : Side) (story : List Mark) (message : List ℕ) (index : ℕ) (shows : Shows story message index) → IsStory side story → ShownAt side story message index shows
shown_at side story message index shows logs =
    let taken : Mark = Taken message shows.handle shows.segments in
    let frames : List Frame = shows.before ++ Protocol shows.shown ∷ shows.after in
    let group : Mark = Grouped frames shows.copies in
    let whole : IsStory side (shows.earlier ++ taken ∷ (shows.between ++ group ∷ shows.later)) = subst (λ (marks : List Mark). IsStory side marks) shows.split logs in
    let first : IsStory side shows.earlier = logs_up_to (log_new side) shows.earlier (taken ∷ (shows.between ++ group ∷ shows.later)) whole in
    let behind : Logs (now side shows.earlier) (taken ∷ (shows.between ++ group ∷ shows.later)) = logs_behind (log_new side) shows.earlier (taken ∷ (shows.between ++ group ∷ shows.later)) whole in
    let up : List Mark = up_to_taken shows in
    let up_log : IsStory side up =
    logs_up_to (log_new side) up (shows.between ++ group ∷ shows.later) (subst (λ (marks : List Mark). IsStory side marks) (sym (append_assoc shows.earlier (taken ∷ []) (shows.between ++ group ∷ shows.later))) whole) in
    let waits : List Mark = up ++ shows.between in
    let to_group : IsStory side (waits ++ group ∷ shows.later) =
    subst (λ (marks : List Mark). IsStory side marks) (sym (append_assoc up shows.between (group ∷ shows.later) ∙ append_assoc shows.earlier (taken ∷ []) (shows.between ++ group ∷ shows.later))) whole in
    let waits_log : IsStory side waits = logs_up_to (log_new side) waits (group ∷ shows.later) to_group in
    let at_group : Logs (now side waits) (group ∷ shows.later) = logs_behind (log_new side) waits (group ∷ shows.later) to_group in
    let owes : (now side waits).owes ≡ (now side up).owes =
    ap (λ (s : LogState). s.owes) (after_both (log_new side) up shows.between) ∙ owes_still (now side up) shows.between shows.waits in
    let said : messages_in frames ≡ owed_messages (now side up).owes =
    made_messages (now side waits) (now side waits).owes frames shows.copies (sound_now side waits waits_log).owes at_group.0 ∙ ap owed_messages owes in
    let alone : messages_of (Protocol shows.shown) ≡ shows.shown ∷ [] = cut_alone shows.shown (one_among (made_in shows.earlier ++ shows.before) (shows.after ++ made_in shows.later) shows.shown (subst (λ (fs : List Frame). AllByRecursion HasOne fs) (made_shows story message index shows) (gives side story logs).alone)) in
    let frames_say : messages_in frames ≡ messages_in shows.before ++ (messages_of (Protocol shows.shown) ++ messages_in shows.after) = flat_map-append messages_of shows.before (Protocol shows.shown ∷ shows.after) in
    let own : length (owed_messages (now side up).owes) ≡ length (messages_in shows.before) + suc (length (messages_in shows.after)) =
    omega (arith, ap length said, ap length frames_say, length-append (messages_in shows.before) (messages_of (Protocol shows.shown) ++ messages_in shows.after), length-append (messages_of (Protocol shows.shown)) (messages_in shows.after), ap length alone) in
    let none : length (messages_in shows.before) ≡ 0 = omega (arith, own, none_or_one (now side up).owes) in
    let made_up : made_in up ≡ made_in shows.earlier = made_append shows.earlier (taken ∷ []) ∙ append-nil (made_in shows.earlier) in
    let told : length (messages_in (made_in shows.earlier)) + length (owed_messages (now side shows.earlier).owes) ≡ length (shown_of side shows.earlier) =
    omega (arith, ap length (shown_in_order side shows.earlier first), length-append (messages_in (made_in shows.earlier)) (owed_messages (now side shows.earlier).owes)) in
    let told_up : length (messages_in (made_in shows.earlier)) + length (owed_messages (now side up).owes) ≡ length (shown_of side up) =
    omega (arith, ap length (shown_in_order side up up_log), length-append (messages_in (made_in up)) (owed_messages (now side up).owes), ap (λ (fs : List Frame). length (messages_in fs)) made_up) in
    let nothing : length (owed_messages (now side shows.earlier).owes) ≡ 0 = ap (λ (o : Option Owed). length (owed_messages o)) behind.0.owes_none in
    let both : messages_in (made_in shows.earlier ++ shows.before) ≡ messages_in (made_in shows.earlier) ++ messages_in shows.before = flat_map-append messages_of (made_in shows.earlier) shows.before in
    record {
      count = omega (arith, told, nothing, none, ap length both, length-append (messages_in (made_in shows.earlier)) (messages_in shows.before));
      more = omega (arith, told, told_up, nothing, own, none_or_one (now side up).owes);
    }

-- ---- a message that was heard

-- each frame heard has one message or none
pub each_one : (frames : List Frame) → AllByRecursion HasOne (counted frames) → AllByRecursion HasOne frames
each_one [] h = tt
each_one (Ack count ∷ frames) h = (tt, each_one frames h)
each_one (Restart token connection received ∷ frames) h = (tt, each_one frames h)
each_one (Protocol bytes ∷ frames) h = (h.0, each_one frames h.1)
each_one (Inject rids ∷ frames) h = (tt, each_one frames h.1)
each_one (OpenFile rid size ∷ frames) h = (tt, each_one frames h.1)
each_one (ExtendFile rid size ∷ frames) h = (tt, each_one frames h.1)
each_one (Fill rid start end bytes ∷ frames) h = (tt, each_one frames h.1)
each_one (OpenPipe rid ∷ frames) h = (tt, each_one frames h.1)
each_one (PipeTransfer rid bytes ∷ frames) h = (tt, each_one frames h.1)
each_one (PipeShutR rid ∷ frames) h = (tt, each_one frames h.1)
each_one (PipeShutW rid ∷ frames) h = (tt, each_one frames h.1)
each_one (Close reason ∷ frames) h = (tt, each_one frames h.1)

pub front_one : (xs ys : List Frame) → AllByRecursion HasOne (xs ++ ys) → AllByRecursion HasOne xs
front_one [] ys h = tt
front_one (x ∷ xs) ys h = (h.0, front_one xs ys h.1)

ways_differ : (side : Side) (one other : List ℕ) → ◌≡◌ {A = Way × List ℕ} (own_way side, one) (other_way side, other) → ⊥
ways_differ Near one other e = let never : Request ≡ Event = ap (λ (it : Way × List ℕ). it.0) e in cc
ways_differ Far one other e = let never : Event ≡ Request = ap (λ (it : Way × List ℕ). it.0) e in cc

-- the mark where a message of the order was heard
record FoundHeard (side : Side) (story : List Mark) (earlier : List (Way × List ℕ)) : Type 0 where
  marks : List Mark
  bytes : List ℕ
  later : List Mark
  split : story ≡ marks ++ Heard (Protocol bytes) ∷ later
  order : order_in side marks ≡ earlier

heard_behind : (side : Side) (mark : Mark) (story : List Mark) (earlier all : List (Way × List ℕ)) → passed_by side mark ++ earlier ≡ all → FoundHeard side story earlier → FoundHeard side (mark ∷ story) all
heard_behind side mark story earlier all e f = record {
  marks = mark ∷ f.marks;
  bytes = f.bytes;
  later = f.later;
  split = ap (λ (ms : List Mark). mark ∷ ms) f.split;
  order = ap (λ (o : List (Way × List ℕ)). passed_by side mark ++ o) f.order ∙ e;
}

-- behind a mark with one entry
behind_entry : (side : Side) (mark : Mark) (story : List Mark) (entry x : Way × List ℕ) (xs rest earlier : List (Way × List ℕ)) → passed_by side mark ≡ entry ∷ []
    → entry ∷ xs ≡ x ∷ (earlier ++ rest) → FoundHeard side story earlier → FoundHeard side (mark ∷ story) (x ∷ earlier)
behind_entry side mark story entry x xs rest earlier is e f =
    let same : entry ≡ x = cc in
    heard_behind side mark story earlier (x ∷ earlier) (ap (λ (o : List (Way × List ℕ)). o ++ earlier) is ∙ ap (λ (y : Way × List ℕ). y ∷ earlier) same) f

found_heard : (side : Side) (story : List Mark) (earlier rest : List (Way × List ℕ)) (heard : List ℕ) → AllByRecursion HasOne (heard_in story)
    → order_in side story ≡ earlier ++ (other_way side, heard) ∷ rest → FoundHeard side story earlier
found_heard side [] [] rest heard one e = absurd cc
found_heard side [] (x ∷ earlier) rest heard one e = absurd cc
found_heard side (Taken message handle segments ∷ story) [] rest heard one e = absurd (ways_differ side message heard cc)
found_heard side (Taken message handle segments ∷ story) (x ∷ earlier) rest heard one e =
    behind_entry side (Taken message handle segments) story (own_way side, message) x (order_in side story) ((other_way side, heard) ∷ rest) earlier refl e
    (found_heard side story earlier rest heard one (cc))
found_heard side (Grouped frames copies ∷ story) earlier rest heard one e = heard_behind side (Grouped frames copies) story earlier earlier refl (found_heard side story earlier rest heard one e)
found_heard side (Dropped rid ∷ story) earlier rest heard one e = heard_behind side (Dropped rid) story earlier earlier refl (found_heard side story earlier rest heard one e)
found_heard side (Heard (Protocol bytes) ∷ story) [] rest heard one e = record { marks = []; bytes = bytes; later = story; split = refl; order = refl }
found_heard side (Heard (Protocol bytes) ∷ story) (x ∷ earlier) rest heard one e =
    let is : passed_by side (Heard (Protocol bytes)) ≡ (other_way side, bytes) ∷ [] = ap (map (λ message. (other_way side, message))) (cut_alone bytes one.0) in
    let entry : (other_way side, bytes) ∷ order_in side story ≡ x ∷ (earlier ++ (other_way side, heard) ∷ rest) = ap (λ (o : List (Way × List ℕ)). o ++ order_in side story) (sym is) ∙ e in
    behind_entry side (Heard (Protocol bytes)) story (other_way side, bytes) x (order_in side story) ((other_way side, heard) ∷ rest) earlier is entry
    (found_heard side story earlier rest heard one.1 (cc))
found_heard side (Heard frame ∷ story) earlier rest heard one e = heard_behind side (Heard frame) story earlier earlier refl (found_heard side story earlier rest heard one.1 e)

-- ---- both orders

pub same_front : {X : Type 0} (xs p ys q : List X) → xs ++ p ≡ ys ++ q → length xs ≡ length ys → xs ≡ ys
same_front {X} xs p ys q e l =
    let one : xs ≡ take (length xs) (xs ++ p) = IsFront_first (record { rest = p; is = refl }) in
    let two : ys ≡ take (length ys) (ys ++ q) = IsFront_first (record { rest = q; is = refl }) in
    one ∙ ap (take (length xs)) e ∙ ap (λ (n : ℕ). take n (ys ++ q)) l ∙ sym two

back_way : (side : Side) → other_way (other_side side) ≡ own_way side
back_way Near = refl
back_way Far = refl

-- what a sender knew stands before the message, where as many are shown before it
known_front : (side : Side) (story : List Mark) (message : List ℕ) (index : ℕ) (shows : Shows story message index) → IsStory side story
    → (known rest : List (Way × List ℕ)) → order_in side story ≡ known ++ rest → length (shown_by side known) ≡ length (messages_in (made_in shows.earlier ++ shows.before))
    → IsFront known (order_in side shows.earlier)
known_front side story message index shows logs known rest e count =
    let taken : Mark = Taken message shows.handle shows.segments in
    let tail : List Mark = shows.between ++ Grouped (shows.before ++ Protocol shows.shown ∷ shows.after) shows.copies ∷ shows.later in
    let up : List Mark = up_to_taken shows in
    let first : order_in side shows.earlier ++ order_in side (taken ∷ tail) ≡ known ++ rest = sym (order_append side shows.earlier (taken ∷ tail)) ∙ ap (order_in side) (sym shows.split) ∙ e in
    let whole : order_in side up ++ order_in side tail ≡ known ++ rest =
    sym (order_append side up tail) ∙ ap (order_in side) (append_assoc shows.earlier (taken ∷ []) tail ∙ sym shows.split) ∙ e in
    let long : length (order_in side up) ≡ length (order_in side shows.earlier) + 1 =
    ap length (order_append side shows.earlier (taken ∷ [])) ∙ length-append (order_in side shows.earlier) ((own_way side, message) ∷ []) in
    let at = shown_at side story message index shows logs in
    let too_long : length (order_in side up) ≤ length known → ⊥ = λ l.
    let front : IsFront (order_in side up) known = IsFront_longer known (order_in side up) rest (order_in side tail) (sym whole) l in
    omega (arith, IsFront_length (shown_front side front), ap length (shown_in side up), at.more, at.count, count) in
    elim (cases_order (length known) (length (order_in side shows.earlier))) [
      | inl l ↦ IsFront_longer (order_in side shows.earlier) known (order_in side (taken ∷ tail)) rest first (omega (arith, l))
      | inr (inl l) ↦ IsFront_longer (order_in side shows.earlier) known (order_in side (taken ∷ tail)) rest first (omega (arith, l))
      | inr (inr l) ↦ absurd (too_long (omega (arith, l, long)))
    ]

pub orders_are_kept : OrdersAreKept
orders_are_kept side sender hearer both known rest earlier later sent heard es eh count =
    let writer : List Mark = both.one_law.story in
    let reader : List Mark = both.other_law.story in
    let hears = other_hears both in
    let each : AllByRecursion HasOne (heard_in reader) =
    each_one (heard_in reader) (front_one (accepted_in reader) hears.rest (subst (λ (fs : List Frame). AllByRecursion HasOne fs) (sym hears.is) (gives side writer both.one_law.log).alone)) in
    let order : order_in (other_side side) reader ≡ earlier ++ (other_way (other_side side), heard) ∷ later =
    sym (order_is_told (other_side side) hearer both.other_law) ∙ eh ∙ ap (λ (way : Way). earlier ++ (way, heard) ∷ later) (sym (back_way side)) in
    let f = found_heard (other_side side) reader earlier later heard each order in
    let made : made_in writer ≡ accepted_in f.marks ++ Protocol f.bytes ∷ (accepted_in f.later ++ hears.rest) =
    sym hears.is
    ∙ ap (λ (fs : List Frame). fs ++ hears.rest) (ap accepted_in f.split ∙ accepted_heard f.marks (Protocol f.bytes) f.later refl)
    ∙ append_assoc (accepted_in f.marks) (Protocol f.bytes ∷ accepted_in f.later) hears.rest in
    let g = each_is_shown side writer (accepted_in f.marks) f.bytes (accepted_in f.later ++ hears.rest) both.one_law.log made in
    let shows : Shows writer g.0 (length (accepted_in f.marks)) = g.1 in
    let was = heard_was_made side sender hearer both f.marks (Protocol f.bytes) f.later g.0 f.split refl shows in
    let same : made_in shows.earlier ++ shows.before ≡ accepted_in f.marks =
    same_front (made_in shows.earlier ++ shows.before) (Protocol shows.shown ∷ (shows.after ++ made_in shows.later)) (accepted_in f.marks) (Protocol f.bytes ∷ (accepted_in f.later ++ hears.rest))
    (sym (made_shows writer g.0 (length (accepted_in f.marks)) shows) ∙ made) (omega (arith, shows.index_is, length-append (made_in shows.earlier) shows.before)) in
    let told : messages_in (accepted_in f.marks) ≡ of_way (own_way side) earlier =
    sym (other_in_order (other_side side) f.marks) ∙ ap (λ (way : Way). of_way way (order_in (other_side side) f.marks)) (back_way side) ∙ ap (of_way (own_way side)) f.order in
    let front : IsFront known (order_in side shows.earlier) =
    known_front side writer g.0 (length (accepted_in f.marks)) shows both.one_law.log known ((own_way side, sent) ∷ rest) (sym (order_is_told side sender both.one_law) ∙ es)
    (count ∙ ap length (sym told) ∙ ap (λ (fs : List Frame). length (messages_in fs)) (sym same)) in
    let knew : IsFront (of_way (other_way side) known) (messages_in (accepted_in shows.earlier)) =
    subst (λ (ms : List (List ℕ)). IsFront (of_way (other_way side) known) ms) (other_in_order side shows.earlier) (way_front (other_way side) front) in
    subst (λ (ms : List (List ℕ)). IsFront (of_way (other_way side) known) ms) (sym (shown_in (other_side side) f.marks) ∙ ap (shown_by (other_side side)) f.order) (IsFront_trans knew was.messages)

-- What the fault of a side tells: the cause stands at what its peer put.
use Rattle.std.proofs.Common.{◌≡◌, ℕ, zero, suc, ◌+◌, ◌-◌, ◌<◌, ◌≤◌, List, [], ◌∷◌, ◌++◌, length, Bool, true, false, Option, Some, None, refl, sym, ap, subst, ◌∙◌, arith, inl, inr, ◌⊎◌}
use Rattle.std.proofs.lemmas.List.{append-nil}
use Rattle.std.specs.List.{AllByRecursion}
use Rattle.wp_outside.specs.declared.kinds.Side.{Side}
use Rattle.wp_outside.specs.declared.pipe_items.PipeItem.{PipeItem}
use Rattle.wl_wire.specs.Wire.{cut, cut_rest, joined, first, IsMessage, Cuts}
use Rattle.wl_wire.proofs.Cutting.{cut-cuts, cuts-cut, cuts-append, messages-cut}
use Rattle.half_model.specs.declared.causes.Limit.{Limit}
use Rattle.half_model.specs.declared.causes.Limit.TheVariants as limits
use Rattle.half_model.specs.declared.causes.PeerCause.{PeerCause}
use Rattle.half_model.specs.declared.items.PeerIn.{PeerIn}
use Rattle.half_model.specs.declared.items.PeerIn.TheVariants as items
use Rattle.half_model.specs.Inlet.{Inlet, no_inlet}
use Rattle.half_model.specs.Log.{Mark}
use Rattle.pair_model.specs.Steps.{on_last, with_read}
use Rattle.wl_objects.specs.Entries.{Tracked}
use Rattle.half_model.specs.PipeTurn.{Makes, pipe_turn}
use Rattle.half_model.specs.StoryLaws.{now}
use Rattle.half_model.specs.Turn.{stands_in}
use Rattle.side_model.specs.declared.fault.ProxyFault.{ProxyFault}
use Rattle.side_model.specs.declared.fault.ProxyFault.TheVariants as faults
use Rattle.side_model.specs.Books.{Book, MOST_WEIGHT, ITEM_WEIGHT, weight}
use Rattle.side_model.specs.Calls.{MOST_CONNECTIONS}
use Rattle.pair_runs.specs.Causes.{IsUnknown}
use Rattle.pair_runs.specs.Faults.{Waiting, ItemNext, MessageCaused, ItemCaused, MadeCaused, TrailCaused, LimitCaused, Caused}
use Rattle.pair_runs.specs.Linking.{ReadsInPart, read}
use Rattle.pair_runs.specs.Loading.{LoadsIn, LoadsAllIn}
use Rattle.pair_runs.specs.Moves.{LineInPart, ClosedBy}
use Rattle.pair_runs.specs.Putting.{spread, TakenOf}
use Rattle.pair_runs.specs.Runs.{bytes_in}
use Rattle.pair_runs.specs.Sides.{SideState, fed, asked, all_loaded}
use Rattle.pair_runs.specs.Taking.{Cut, cut_item, Taker, TakesIn}
use Rattle.pair_runs.specs.Whys.{Told, Waits, tracked_by, AtMessage, AtItem, MakesTooMuch, PassesLimit, Why, RefusesPiece, RefusesLine}
use Rattle.pair_runs.specs.Working.{InPart, WorksInPart}
use Rattle.pair_runs.proofs.Feeding.{FedAt, fed_in, taken_on, works_fed, rows_fed, put_more, bytes_with}
use Rattle.pair_runs.proofs.Ordering.{cut_none}
use Rattle.pair_runs.proofs.Receiving.{all_plain}
use Rattle.pair_runs.proofs.Weights.{line_weighs}

-- ---- where a call failed

module _ (side : Side) (put : List PeerIn) (made : ℕ) where
  -- what waits behind the messages that were taken in part
  abbrev waiting_part : (a b : SideState) (wire : List PeerIn) (p : InPart a b) (story : List Mark) → Waits side p.took a.inside a.book.order b.book (tracked_by side story) → FedAt side put a wire → Waiting side put b.book story
  waiting_part a b wire p story w h = record {
    waits = w.waits;
    others = spread wire;
    taken_of = taken_on side put a.book b.book p.took a.inside.inlet w.waits a.inside.objects (tracked_by side story) (spread wire) p.trail p.messages w.left w.passes h;
  }

  -- why it failed, where an item of the call may be refused, or too heavy
  why_caused : (hears : Bool) (item : Option PeerIn) (fault : ProxyFault) (a b : SideState) (wire : List PeerIn) (p : InPart a b) → FedAt side put a wire → Told side fault b.book
      → ((index : ℕ) (cause : PeerCause) (told : Told side (faults.Peer index cause) b.book) → AtItem side told.story cause p.took a.inside a.book.order b.book item → ItemCaused side put b.book index cause told)
      → (MakesTooMuch side item p.took a.book.order b.book → MadeCaused side put b.book)
      → Why side hears item fault p.took a.inside a.book.order b.book → Caused side put b.book made fault
  why_caused hears item (faults.Frame connection place cause) a b wire p h k refused heavy why = k
  why_caused hears item (faults.Peer index cause) a b wire p h k refused heavy why = record { told = why.told; index_is = why.index_is; tracked = why.tracked; at = by_place why.at }
    where
      by_place : AtMessage side why.told.story cause p.took a.inside a.book.order b.book ⊎ AtItem side why.told.story cause p.took a.inside a.book.order b.book item
          → MessageCaused side put b.book index cause why.told ⊎ ItemCaused side put b.book index cause why.told
      by_place (inl m) = inl (record { behind = waiting_part a b wire p why.told.story m.behind h; has = m.has })
      by_place (inr i) = inr (refused index cause why.told i)
  why_caused hears item (faults.Limit which) a b wire p h k refused heavy why = by_which which why
    where
      by_which : (which : Limit) → PassesLimit which side item p.took a.inside a.book.order b.book → LimitCaused which side put b.book made
      by_which limits.File m = record { told = m.told; behind = waiting_part a b wire p m.told.story m.behind h; above = m.above }
      by_which limits.Files m = record { told = m.told; behind = waiting_part a b wire p m.told.story m.behind h; above = m.above }
      by_which limits.Trail (inl m) = inl (record { told = m.told; behind = waiting_part a b wire p m.told.story m.behind h; mark = m.mark; lawful = m.lawful; comes = m.comes; heavy = m.heavy })
      by_which limits.Trail (inr m) = inr (inl (heavy m))
      by_which limits.Connections m = absurd m
      by_which limits.Input m = absurd m
      by_which limits.Lines m = absurd m
  why_caused hears item faults.Memory a b wire p h k refused heavy why = tt

  -- the side is that of the records
  why_of : (hears : Bool) (item : Option PeerIn) (fault : ProxyFault) (a b : SideState) (p : WorksInPart hears item fault a b) → Told side fault b.book → Why side hears item fault p.part.took a.inside a.book.order b.book
  why_of hears item fault a b p k = subst (λ (it : Side). Why it hears item fault p.part.took a.inside a.book.order b.book) k.tells.side_is p.why

  -- a call that brings no item
  pub part_caused : (hears : Bool) (fault : ProxyFault) (a b : SideState) (wire : List PeerIn) → WorksInPart hears None fault a b → FedAt side put a wire → Told side fault b.book → Caused side put b.book made fault
  part_caused hears fault a b wire p h k =
      why_caused hears None fault a b wire p.part h k
      (λ index cause told i. absurd (let never : None ≡ Some (items.Pipe i.pipe) = i.brought in cc))
      (λ m. absurd (let never : None ≡ Some (items.Pipe m.pipe) = m.brought in cc))
      (why_of hears None fault a b p k)

  -- ---- an item for a pipe

  none_more : (a b : SideState) (p : InPart a b) → p.took ≡ [] → b.book.trail.taken ≡ a.book.trail.taken
  none_more a b p e = p.trail.taken ∙ ap (λ (took : List (List ℕ)). a.book.trail.taken ++ took) e ∙ append-nil a.book.trail.taken

  abbrev item_next : (a b : SideState) (pipe : PipeItem) (wire : List PeerIn) (p : InPart a b) → p.took ≡ [] → b.book.order ≡ a.book.order → FedAt side put a (items.Pipe pipe ∷ wire) → ItemNext side put b.book
  item_next a b pipe wire p e d h = record {
    pipe = pipe;
    waits = a.inside.inlet;
    objects = a.inside.objects;
    others = spread wire;
    taken_of = record {
      side_is = p.trail.side ∙ h.side_is;
      ins = h.ins;
      split = h.split;
      whole = subst (λ (taken : List (List ℕ)). AllByRecursion IsMessage taken) (sym (none_more a b p e)) h.whole;
      left = record {
        uses = h.left.uses;
        took_is = none_more a b p e ∙ h.left.took_is;
        left_is = h.left.left_is;
        bytes = h.left.bytes ∙ ap (λ (taken : List (List ℕ)). joined taken ++ a.inside.inlet.bytes) (sym (none_more a b p e));
      };
      passes = record { order = h.passes.order; tracked = h.passes.tracked; uses_are = h.passes.uses_are; ways_are = d ∙ h.passes.ways_are };
    };
  }

  -- it was put behind just the messages that were taken, where no other one waits
  just_behind : (a : SideState) (wire : List PeerIn) (h : FedAt side put a wire) → stands_in (first a.inside.inlet.bytes) ≡ false → cut (bytes_in h.ins) ≡ a.book.trail.taken
  just_behind a wire h still =
      let taken : List (List ℕ) = a.book.trail.taken in
      let rest : List ℕ = a.inside.inlet.bytes in
      let bytes : bytes_in h.ins ≡ joined taken ++ rest = sym (bytes_with h.ins no_inlet) ∙ h.left.bytes in
      let cuts : Cuts (joined taken ++ rest) (taken ++ cut rest) (cut_rest rest) = cuts-append taken (joined taken) [] rest (cut rest) (cut_rest rest) (messages-cut taken (all_plain taken h.whole)) (cut-cuts rest) in
      ap cut bytes ∙ (cuts-cut (joined taken ++ rest) (taken ++ cut rest) (cut_rest rest) cuts).0 ∙ ap (λ (ms : List (List ℕ)). taken ++ ms) (cut_none rest (first rest) refl still) ∙ append-nil taken

  -- an item is taken, and meets a fault
  pub item_caused : (most : ℕ) (item : PeerIn) (wire : List PeerIn) (fault : ProxyFault) (a b : SideState) → WorksInPart false (Some (cut_item most item wire).item) fault (fed (cut_item most item wire).item a) b → FedAt side put a (item ∷ wire)
      → Told side fault b.book → Caused side put b.book made fault
  item_caused most (items.Bytes bytes) wire fault a b p h k =
      let it : Cut = cut_item most (items.Bytes bytes) wire in
      why_caused false (Some it.item) fault (fed it.item a) b it.rest p.part (fed_in side put most (items.Bytes bytes) wire a h) k (λ index cause told i. absurd (let never : Some it.item ≡ Some (items.Pipe i.pipe) = i.brought in cc))
      (λ m. absurd (let never : Some it.item ≡ Some (items.Pipe m.pipe) = m.brought in cc)) (why_of false (Some it.item) fault (fed it.item a) b p k)
  item_caused most (items.Handle handle) wire fault a b p h k =
      why_caused false (Some (items.Handle handle)) fault (fed (items.Handle handle) a) b wire p.part (fed_in side put most (items.Handle handle) wire a h) k (λ index cause told i. absurd (let never : Some (items.Handle handle) ≡ Some (items.Pipe i.pipe) = i.brought in cc))
      (λ m. absurd (let never : Some (items.Handle handle) ≡ Some (items.Pipe m.pipe) = m.brought in cc)) (why_of false (Some (items.Handle handle)) fault (fed (items.Handle handle) a) b p k)
  item_caused most (items.Note note) wire fault a b p h k =
      why_caused false (Some (items.Note note)) fault (fed (items.Note note) a) b wire p.part (fed_in side put most (items.Note note) wire a h) k (λ index cause told i. absurd (let never : Some (items.Note note) ≡ Some (items.Pipe i.pipe) = i.brought in cc))
      (λ m. absurd (let never : Some (items.Note note) ≡ Some (items.Pipe m.pipe) = m.brought in cc)) (why_of false (Some (items.Note note)) fault (fed (items.Note note) a) b p k)
  item_caused most (items.Pipe pipe) wire fault a b p h k =
      why_caused false (Some (items.Pipe pipe)) fault a b wire part (fed_in side put most (items.Pipe pipe) wire a h) k refused heavy (why_of false (Some (items.Pipe pipe)) fault (fed (items.Pipe pipe) a) b p k)
    where
      part : InPart a b
      part = record { took = p.part.took; messages = p.part.messages; bytes = p.part.bytes; trail = p.part.trail; order = p.part.order }

      refused : (index : ℕ) (cause : PeerCause) (told : Told side (faults.Peer index cause) b.book) → AtItem side told.story cause p.part.took a.inside a.book.order b.book (Some (items.Pipe pipe)) → ItemCaused side put b.book index cause told
      refused index cause told i =
          let same : i.pipe ≡ pipe = (let e : Some (items.Pipe pipe) ≡ Some (items.Pipe i.pipe) = i.brought in cc) in
          let none : b.book.trail.taken ≡ a.book.trail.taken = none_more a b part i.none in
          record {
            next = item_next a b pipe wire part i.none i.same h;
            just = just_behind a (items.Pipe pipe ∷ wire) h i.still ∙ sym none;
            cause_is = i.cause_is;
            unknown = subst (λ (it : PipeItem). IsUnknown (now side told.story) it) same i.unknown;
          }

      heavy : MakesTooMuch side (Some (items.Pipe pipe)) p.part.took a.book.order b.book → MadeCaused side put b.book
      heavy m =
          let same : m.pipe ≡ pipe = (let e : Some (items.Pipe pipe) ≡ Some (items.Pipe m.pipe) = m.brought in cc) in
          record {
            told = m.told;
            next = item_next a b pipe wire part m.none m.same h;
            frame = m.frame;
            tables = m.tables;
            makes = subst (λ (it : PipeItem). pipe_turn (now side m.told.story).tables (now side m.told.story).taking it ≡ Makes m.frame m.tables) same m.makes;
            heavy = m.heavy;
          }

  -- ---- one side

  -- what holds of a side and its wire, by whether it has failed
  abbrev pub FedBy : Option ProxyFault → SideState → List PeerIn → Type 0
  FedBy None b wire = FedAt side put b wire
  FedBy (Some fault) b wire = Told side fault b.book → Caused side put b.book made fault

  pub takes_caused : (count most : ℕ) (a : SideState) (wire : List PeerIn) (b : Taker) (stop : Option ProxyFault) → TakesIn count most a wire b stop → FedAt side put a wire → FedBy stop b.side b.wire
  takes_caused zero most a wire b stop t h =
      subst (λ (it : Option ProxyFault). FedBy it b.side b.wire) (sym t.1) (subst (λ (it : Taker). FedAt side put it.side it.wire) (sym t.0) h)
  takes_caused (suc count) most a [] b stop t h = absurd t
  takes_caused (suc count) most a (item ∷ wire) b stop t h = elim t.2 [
    | inl fails ↦ subst (λ (s : Option ProxyFault). FedBy s b.side b.wire) (sym fails.stops) (λ k. item_caused most item wire fails.fault a b.side fails.part h k)
    | inr goes ↦
        let it : Cut = cut_item most item wire in
        takes_caused count (most - it.cost) goes.mid it.rest b stop goes.more (works_fed false side put (fed it.item a) goes.mid it.rest goes.works (fed_in side put most item wire a h))
  ]

  pub loads_caused : (count words over : ℕ) (a b : SideState) (wire : List PeerIn) (stop : Option ProxyFault) → LoadsIn count words a b over stop → FedAt side put a wire → FedBy stop b wire
  loads_caused zero words over a b wire stop l h = subst (λ (s : Option ProxyFault). FedBy s b wire) (sym l.0) (elim l.1 [
    | inl none ↦ subst (λ (it : SideState). FedAt side put it wire) (sym none.1) h
    | inr last ↦ subst (λ (it : SideState). FedAt side put it wire) (sym last.1) h
  ])
  loads_caused (suc count) words over a b wire stop l h = elim l.2 [
    | inl fails ↦ subst (λ (s : Option ProxyFault). FedBy s b wire) (sym fails.stops) (λ k. part_caused false fails.fault a b wire fails.part h k)
    | inr goes ↦ loads_caused count _ over goes.1.mid b wire stop goes.1.more (works_fed false side put (all_loaded a) goes.1.mid wire goes.1.works h)
  ]

  pub all_caused : (count : ℕ) (a b : SideState) (wire : List PeerIn) (stop : Option ProxyFault) → LoadsAllIn count a b stop → FedAt side put a wire → FedBy stop b wire
  all_caused zero a b wire stop l h = subst (λ (s : Option ProxyFault). FedBy s b wire) (sym l.2) (subst (λ (it : SideState). FedAt side put it wire) (sym l.1) h)
  all_caused (suc count) a b wire stop l h = elim l.1 [
    | inl fails ↦ subst (λ (s : Option ProxyFault). FedBy s b wire) (sym fails.stops) (λ k. part_caused false fails.fault a b wire fails.part h k)
    | inr goes ↦ all_caused count goes.mid b wire stop goes.more (works_fed false side put (all_loaded a) goes.mid wire goes.works h)
  ]

  pub closed_caused : (said : Bool) (a b : SideState) (wire : List PeerIn) (stop : Option ProxyFault) → ClosedBy said stop a b → FedAt side put a wire → FedBy stop b wire
  closed_caused true a b wire None c h = subst (λ (it : SideState). FedAt side put it wire) (sym c) h
  closed_caused true a b wire (Some fault) c h = absurd c
  closed_caused false a b wire None c h = works_fed false side put (asked a) b wire c h
  closed_caused false a b wire (Some fault) c h = λ k. part_caused false fault (asked a) b wire c h k

  -- for want of memory
  no_memory : (fault : ProxyFault) (book : Book) → fault ≡ faults.Memory → Caused side put book made fault
  no_memory fault book e = subst (λ (x : ProxyFault). Caused side put book made x) (sym e) tt

  too_heavy : (fault : ProxyFault) (book : Book) → fault ≡ faults.Limit limits.Trail → TrailCaused side put book → Caused side put book made fault
  too_heavy fault book e h = subst (λ (x : ProxyFault). Caused side put book made x) (sym e) h

  pub wrote_caused : (fault : ProxyFault) (book : Book) → RefusesPiece fault book.trail → Caused side put book made fault
  wrote_caused fault book (inl front) =
      too_heavy fault book front.refuses.0 (inr (inr (inr (inl (record { front = front.front; next = front.next; refuses = (refl, front.refuses.1) })))))
  wrote_caused fault book (inr memory) = no_memory fault book memory

  pub read_caused : (bytes : List ℕ) (fault : ProxyFault) (pulled : List ℕ) (a b : SideState) (wire : List PeerIn) → ReadsInPart bytes fault pulled a b → FedAt side put a wire → FedBy (Some fault) b wire
  read_caused bytes fault pulled a b wire r h = by_refused r.refused refl
    where
      by_refused : (refused : List ℕ) → r.refused ≡ refused → FedBy (Some fault) b wire
      by_refused [] e = λ k. part_caused true fault (read r.got a) b wire (r.why e) (rows_fed side put a wire (on_last (with_read r.got)) h) k
      by_refused (byte ∷ refused) e = λ k. elim (r.because (λ none. let never : byte ∷ refused ≡ [] = sym e ∙ none in cc)) [
        | inl heavy ↦ too_heavy fault b.book heavy.0 (inr (inr (inl (record { size = length r.refused; few = r.piece; heavy = heavy.1 }))))
        | inr memory ↦ no_memory fault b.book memory
      ]

  pub line_caused : (connection : ℕ) (fault : ProxyFault) (a b : SideState) → RefusesLine connection fault a.book.trail → LineInPart connection a b → (MOST_CONNECTIONS < connection → MOST_CONNECTIONS ≤ made) → Caused side put b.book made fault
  line_caused connection fault a b (inl many) part few = subst (λ (x : ProxyFault). Caused side put b.book made x) (sym many.0) (few many.1)
  line_caused connection fault a b (inr (inl heavy)) part few = too_heavy fault b.book heavy.0 (inr (inr (inr (inr (by_line part)))))
    where
      by_line : LineInPart connection a b → MOST_WEIGHT < weight b.book.trail + ITEM_WEIGHT
      by_line (inl old) = omega (arith, heavy.1, ap (λ (book : Book). weight book.trail) old)
      by_line (inr new) = omega (arith, heavy.1, ap (λ (book : Book). weight book.trail) new, line_weighs connection a)
  line_caused connection fault a b (inr (inr memory)) part few = no_memory fault b.book memory

  -- more is put
  abbrev more_taken : (more : List PeerIn) (book : Book) (waits : Inlet) (objects : Tracked) (pipe : PipeItem) (others : List PeerIn) → TakenOf side put book waits objects (items.Pipe pipe ∷ others)
      → TakenOf side (put ++ more) book waits objects (items.Pipe pipe ∷ (others ++ spread more))
  more_taken more book waits objects pipe others h = put_more side put more book waits objects (items.Pipe pipe ∷ others) h

  abbrev wait_more : (more : List PeerIn) (book : Book) (story : List Mark) → Waiting side put book story → Waiting side (put ++ more) book story
  wait_more more book story w = record { waits = w.waits; others = w.others ++ spread more; taken_of = put_more side put more book w.waits (tracked_by side story) w.others w.taken_of }

  abbrev next_more : (more : List PeerIn) (book : Book) → ItemNext side put book → ItemNext side (put ++ more) book
  next_more more book n = record { pipe = n.pipe; waits = n.waits; objects = n.objects; others = n.others ++ spread more; taken_of = more_taken more book n.waits n.objects n.pipe n.others n.taken_of }

  trail_more : (more : List PeerIn) (book : Book) → TrailCaused side put book → TrailCaused side (put ++ more) book
  trail_more more book (inl m) = inl (record { told = m.told; behind = wait_more more book m.told.story m.behind; mark = m.mark; lawful = m.lawful; comes = m.comes; heavy = m.heavy })
  trail_more more book (inr (inl m)) = inr (inl (record { told = m.told; next = next_more more book m.next; frame = m.frame; tables = m.tables; makes = m.makes; heavy = m.heavy }))
  trail_more more book (inr (inr other)) = inr (inr other)

  limit_more : (more : List PeerIn) (book : Book) (which : Limit) → LimitCaused which side put book made → LimitCaused which side (put ++ more) book made
  limit_more more book limits.File m = record { told = m.told; behind = wait_more more book m.told.story m.behind; above = m.above }
  limit_more more book limits.Files m = record { told = m.told; behind = wait_more more book m.told.story m.behind; above = m.above }
  limit_more more book limits.Trail m = trail_more more book m
  limit_more more book limits.Connections m = m
  limit_more more book limits.Input m = m
  limit_more more book limits.Lines m = m

  pub caused_more : (more : List PeerIn) (book : Book) (fault : ProxyFault) → Caused side put book made fault → Caused side (put ++ more) book made fault
  caused_more more book (faults.Frame connection place cause) h = h
  caused_more more book (faults.Peer index cause) h = record { told = h.told; index_is = h.index_is; tracked = h.tracked; at = by_place h.at }
    where
      by_place : MessageCaused side put book index cause h.told ⊎ ItemCaused side put book index cause h.told → MessageCaused side (put ++ more) book index cause h.told ⊎ ItemCaused side (put ++ more) book index cause h.told
      by_place (inl m) = inl (record { behind = wait_more more book h.told.story m.behind; has = m.has })
      by_place (inr i) = inr (record { next = next_more more book i.next; just = i.just; cause_is = i.cause_is; unknown = i.unknown })
  caused_more more book (faults.Limit which) h = limit_more more book which h
  caused_more more book faults.Memory h = tt

-- What steps of loading come to one after another.
use Rattle.std.proofs.Common.{◌≡◌, ◌≢◌, ℕ, zero, suc, ◌+◌, ◌-◌, ◌<◌, ◌≤◌, List, [], ◌∷◌, length, Bool, true, false, Option, Some, None, refl, sym, ap, subst, ◌∙◌, arith, length-append, inl, inr, ◌⊎◌}
use Rattle.std.specs.List.{AllByRecursion}
use Rattle.std.specs.Prelude.{sum}
use Rattle.wl_wire.specs.Wire.{joined, IsMessage}
use Rattle.pair_runs.specs.Loading.{LoadFails, LoadGoes, LoadsLast, LoadsIn, Loads, LoadsAll}
use Rattle.pair_runs.specs.Measure.{copies_left}
use Rattle.pair_runs.specs.Sides.{SideState, all_loaded, words_left}
use Rattle.pair_runs.specs.Working.{Works, WorksInPart}
use Rattle.pair_runs.specs.Kept.{HasFailed}
use Rattle.script_sides.specs.Answering.{Stays, Stops}
use Rattle.script_sides.specs.Progressing.{LoadsPart, LoadsWhole, LoadsNothing, LoadsRest, LoadStops}
use Rattle.script_sides.specs.Ready.{IsReady}
use Rattle.script_sides.specs.Sided.{SideRun, state_of}
use Rattle.side_model.specs.declared.fault.ProxyFault.{ProxyFault}
use Rattle.wp_outside.specs.declared.kinds.Side.{Side}

-- ---- so many words

-- a side of which so many words more are loaded
abbrev pub further : ℕ → SideState → SideState
further count a = record a { loaded = a.loaded + count }

part_further : (count : ℕ) (fault : ProxyFault) (a b : SideState) → WorksInPart false None fault (further count a) b → WorksInPart false None fault a b
part_further count fault a b p = record { part = record { took = p.part.took; messages = p.part.messages; bytes = p.part.bytes; trail = p.part.trail; order = p.part.order }; why = p.why }

no_words : (a : SideState) (count : ℕ) → count < words_left a → a.copies ≡ [] → ⊥
no_words a count l e = absurd (omega (arith, l, ap sum e))

last_further : (words count : ℕ) (a c : SideState) (over : ℕ) → count ≤ words → count < words_left a → LoadsLast (words - count) (further count a) c over → LoadsLast words a c over
last_further words count a c over few left (inl h) = absurd (no_words a count left h.0)
last_further words count a c over few left (inr h) =
    inr (
      omega (arith, h.0, few, left),
      h.1 ∙ ap (λ (n : ℕ). record a { loaded = n }) (omega (arith, few)),
      h.2,
    )

row_further : (n words count : ℕ) (a c : SideState) (over : ℕ) (stop : Option ProxyFault) → 0 < count → count ≤ words → count < words_left a → LoadsIn n (words - count) (further count a) c over stop → LoadsIn n words a c over stop
row_further zero words count a c over stop some few left h = (h.0, last_further words count a c over few left h.1)
row_further (suc n) words count a c over stop some few left h = (omega (arith, some, few), h.1, by_case h.2)
  where
    by_case : LoadFails (further count a) c stop ⊎ ((words_left (further count a) ≤ words - count) × LoadGoes (further count a) (λ mid. LoadsIn n ((words - count) - words_left (further count a)) mid c over stop))
        → LoadFails a c stop ⊎ ((words_left a ≤ words) × LoadGoes a (λ mid. LoadsIn n (words - words_left a) mid c over stop))
    by_case (inl fails) = inl (record { fault = fails.fault; stops = fails.stops; part = part_further count fails.fault a c fails.part })
    by_case (inr goes) =
        inr (
          omega (arith, goes.0, few, left),
          record {
            mid = goes.1.mid;
            works = goes.1.works;
            more = subst (λ (k : ℕ). LoadsIn n k goes.1.mid c over stop) (omega (arith, few, left)) goes.1.more;
          },
        )

pub part_more : (words count : ℕ) (a b c : SideState) (over : ℕ) (stop : Option ProxyFault) → LoadsPart words count a b → Loads (words - count) b c over stop → Loads words a c over stop
part_more words count a b c over stop p all =
    let row : LoadsIn all.count (words - count) (further count a) c over stop = subst (λ (it : SideState). LoadsIn all.count (words - count) it c over stop) p.is all.row in
    record { count = all.count; row = row_further all.count words count a c over stop p.some p.few p.left row }

pub whole_more : (words count : ℕ) (a b c : SideState) (over : ℕ) (stop : Option ProxyFault) → LoadsWhole words count a b → Loads (words - count) b c over stop → Loads words a c over stop
whole_more words count a b c over stop p all = record {
  count = suc all.count;
  row = (
    omega (arith, p.some, p.few),
    p.awaits,
    inr (
      omega (arith, p.all, p.few),
      record { mid = b; works = p.works; more = subst (λ (k : ℕ). LoadsIn all.count k b c over stop) (ap (λ (k : ℕ). words - k) p.all) all.row },
    ),
  );
}

pub stops_there : (words : ℕ) (a b : SideState) (fault : ProxyFault) → 0 < words → LoadStops fault a b → Loads words a b 0 (Some fault)
stops_there words a b fault some h = record { count = 1; row = (some, h.awaits, inl (record { fault = fault; stops = refl; part = h.part })) }

pub none_awaited : (words : ℕ) (a b : SideState) → LoadsNothing a b → Loads words a b words None
none_awaited words a b h = record { count = 0; row = (refl, inl (h.awaits, h.same, refl)) }

-- no words are asked for
pub none_asked : (a : SideState) → (a.copies ≡ []) ⊎ (0 < words_left a) → Loads 0 a a 0 None
none_asked a (inl none) = record { count = 0; row = (refl, inl (none, refl, refl)) }
none_asked a (inr some) = record { count = 0; row = (refl, inr (some, ap (λ (n : ℕ). record a { loaded = n }) (omega arith), refl)) }

-- what is loaded from here on is loaded from there on
abbrev pub Onward : ℕ → SideState → ℕ → SideState → Type 0
Onward words a left b = (c : SideState) (over : ℕ) (stop : Option ProxyFault) → Loads left b c over stop → Loads words a c over stop

-- ---- the copies of one message

-- some words of them may be loaded
pub record Partly (a b : SideState) : Type 0 where
  pub is : b ≡ record a { loaded = b.loaded }
  pub begun : (b ≡ a) ⊎ (a.copies ≢ [])

pub partly_none : (a : SideState) → Partly a a
partly_none a = record { is = refl; begun = inl refl }

copies_of : (a b : SideState) → b ≡ record a { loaded = b.loaded } → b.copies ≡ a.copies
copies_of a b e = ap (λ (it : SideState). it.copies) e

pub partly_more : (most count : ℕ) (a b c : SideState) → Partly a b → LoadsPart most count b c → Partly a c
partly_more most count a b c h p = record {
  is = p.is ∙ ap (λ (it : SideState). record it { loaded = b.loaded + count }) h.is ∙ ap (λ (n : ℕ). record a { loaded = n }) (sym (ap (λ (it : SideState). it.loaded) p.is));
  begun = inr (λ e. no_words b count p.left (copies_of a b h.is ∙ e));
}

pub partly_whole : (most count : ℕ) (a b c : SideState) → Partly a b → LoadsWhole most count b c → LoadsRest a c
partly_whole most count a b c h p = record {
  awaits = λ e. p.awaits (copies_of a b h.is ∙ e);
  works = subst (λ (it : SideState). Works false it c) (ap all_loaded h.is) p.works;
}

pub partly_nothing : (a b c : SideState) → Partly a b → LoadsNothing b c → LoadsNothing a c
partly_nothing a b c h p = elim h.begun [
  | inl same ↦ record { awaits = sym (copies_of a b h.is) ∙ p.awaits; same = p.same ∙ same }
  | inr some ↦ absurd (some (sym (copies_of a b h.is) ∙ p.awaits))
]

pub partly_stops : (fault : ProxyFault) (a b c : SideState) → Partly a b → LoadStops fault b c → LoadStops fault a c
partly_stops fault a b c h p = record {
  awaits = λ e. p.awaits (copies_of a b h.is ∙ e);
  part =
      let part : WorksInPart false None fault (record a { loaded = b.loaded }) c = subst (λ (it : SideState). WorksInPart false None fault it c) h.is p.part in
      record { part = record { took = part.part.took; messages = part.part.messages; bytes = part.part.bytes; trail = part.part.trail; order = part.part.order }; why = part.why };
}

pub part_less : (most count : ℕ) (a b : SideState) → LoadsPart most count a b → words_left b < words_left a
part_less most count a b p = omega (arith, ap words_left p.is, p.some, p.left)

-- ---- all words

pub rest_more : (a b c : SideState) (stop : Option ProxyFault) → LoadsRest a b → LoadsAll b c stop → LoadsAll a c stop
rest_more a b c stop p all = record { count = suc all.count; row = (p.awaits, inr (record { mid = b; works = p.works; more = all.row })) }

pub all_stops : (a b : SideState) (fault : ProxyFault) → LoadStops fault a b → LoadsAll a b (Some fault)
all_stops a b fault h = record { count = 1; row = (h.awaits, inl (record { fault = fault; stops = refl; part = h.part })) }

pub all_nothing : (a b : SideState) → LoadsNothing a b → LoadsAll a b None
all_nothing a b h = record { count = 0; row = (h.awaits, h.same, refl) }

abbrev pub AllOnward : SideState → SideState → Type 0
AllOnward a b = (c : SideState) (stop : Option ProxyFault) → LoadsAll b c stop → LoadsAll a c stop

-- a message that is taken is longer than its copies count
abbrev pub to_load : SideState → ℕ
to_load it = length it.inside.inlet.bytes + copies_left it.copies

some_left : (copies : List ℕ) → copies ≢ [] → copies_left copies ≡ 1
some_left [] n = absurd (n refl)
some_left (words ∷ copies) n = refl

most_left : (copies : List ℕ) → copies_left copies ≤ 1
most_left [] = omega arith
most_left (words ∷ copies) = omega arith

joined_long : (message : List ℕ) (took : List (List ℕ)) → IsMessage message → 8 ≤ length (joined (message ∷ took))
joined_long message took h = omega (arith, length-append message (joined took), h.has_header)

took_less : (took : List (List ℕ)) (a b : SideState) → AllByRecursion IsMessage took → length a.inside.inlet.bytes ≡ length (joined took) + length b.inside.inlet.bytes
    → (took ≡ [] → b.copies ≡ []) → a.copies ≢ [] → to_load b < to_load a
took_less [] a b h e none some = omega (arith, e, ap copies_left (none refl), some_left a.copies some)
took_less (message ∷ took) a b h e none some = omega (arith, e, joined_long message took h.0, most_left b.copies)

pub rest_less : (a b : SideState) → LoadsRest a b → to_load b < to_load a
rest_less a b p =
    took_less p.works.took a b p.works.inside.messages
    (ap length p.works.inside.inlet.bytes ∙ length-append (joined p.works.took) b.inside.inlet.bytes) (λ e. (p.works.awaits.stay e).0) p.awaits

-- ---- sides

pub stays_none : (it : SideRun) → IsReady it → Stays it it
stays_none it h = record { ready = h; side = refl; up = refl }

pub stays_then : (a b c : SideRun) → Stays a b → Stays b c → Stays a c
stays_then a b c h k = record { ready = k.ready; side = k.side ∙ h.side; up = k.up ∙ h.up }

pub stays_stops : (a b c : SideRun) (fault : ProxyFault) → Stays a b → Stops b c fault → Stops a c fault
stays_stops a b c fault h k = record { told = k.told; side = k.side ∙ h.side; failed = subst (λ (it : Side). HasFailed it (state_of c) fault) h.side k.failed }

-- so many words are left of those that were asked for
pub record Loading (words : ℕ) (old : SideRun) (left : ℕ) (it : SideRun) : Type 0 where
  pub stays : Stays old it
  pub wire : it.peer.wire ≡ old.peer.wire
  pub on : Onward words (state_of old) left (state_of it)

pub loading_none : (words : ℕ) (it : SideRun) → IsReady it → Loading words it words it
loading_none words it h = record { stays = stays_none it h; wire = refl; on = λ c over stop all. all }

pub loading_part : (words left count : ℕ) (old it new : SideRun) → Loading words old left it → LoadsPart left count (state_of it) (state_of new) → Stays it new → new.peer.wire ≡ it.peer.wire → Loading words old (left - count) new
loading_part words left count old it new h p stays wire = record {
  stays = stays_then old it new h.stays stays;
  wire = wire ∙ h.wire;
  on = λ c over stop all. h.on c over stop (part_more left count (state_of it) (state_of new) c over stop p all);
}

pub loading_whole : (words left count : ℕ) (old it new : SideRun) → Loading words old left it → LoadsWhole left count (state_of it) (state_of new) → Stays it new → new.peer.wire ≡ it.peer.wire → Loading words old (left - count) new
loading_whole words left count old it new h p stays wire = record {
  stays = stays_then old it new h.stays stays;
  wire = wire ∙ h.wire;
  on = λ c over stop all. h.on c over stop (whole_more left count (state_of it) (state_of new) c over stop p all);
}

pub loading_nothing : (words left : ℕ) (old it new : SideRun) → Loading words old left it → LoadsNothing (state_of it) (state_of new) → Loads words (state_of old) (state_of new) left None
loading_nothing words left old it new h p = h.on (state_of new) left None (none_awaited left (state_of it) (state_of new) p)

pub loading_stops : (words left : ℕ) (old it new : SideRun) (fault : ProxyFault) → Loading words old left it → 0 < left → LoadStops fault (state_of it) (state_of new) → Loads words (state_of old) (state_of new) 0 (Some fault)
loading_stops words left old it new fault h some p = h.on (state_of new) 0 (Some fault) (stops_there left (state_of it) (state_of new) fault some p)

pub loading_ends : (words left : ℕ) (old it : SideRun) → Loading words old left it → left ≡ 0 → (state_of it).copies ≡ [] ⊎ (0 < words_left (state_of it)) → Loads words (state_of old) (state_of it) 0 None
loading_ends words left old it h e some = h.on (state_of it) 0 None (subst (λ (n : ℕ). Loads n (state_of it) (state_of it) 0 None) (sym e) (none_asked (state_of it) some))

-- some words of the copies of one message are loaded
pub record Filling (old it : SideRun) : Type 0 where
  pub stays : Stays old it
  pub wire : it.peer.wire ≡ old.peer.wire
  pub part : Partly (state_of old) (state_of it)

pub filling_none : (it : SideRun) → IsReady it → Filling it it
filling_none it h = record { stays = stays_none it h; wire = refl; part = partly_none (state_of it) }

pub filling_more : (most count : ℕ) (old it new : SideRun) → Filling old it → LoadsPart most count (state_of it) (state_of new) → Stays it new → new.peer.wire ≡ it.peer.wire → Filling old new
filling_more most count old it new h p stays wire = record {
  stays = stays_then old it new h.stays stays;
  wire = wire ∙ h.wire;
  part = partly_more most count (state_of old) (state_of it) (state_of new) h.part p;
}

-- all words of some messages are loaded
pub record Emptying (old : SideRun) (loaded : Bool) (it : SideRun) : Type 0 where
  pub stays : Stays old it
  pub wire : it.peer.wire ≡ old.peer.wire
  pub on : AllOnward (state_of old) (state_of it)
  pub none : loaded ≡ false → state_of it ≡ state_of old
  pub some : loaded ≡ true → (state_of old).copies ≢ []

pub emptying_none : (it : SideRun) → IsReady it → Emptying it false it
emptying_none it h = record {
  stays = stays_none it h;
  wire = refl;
  on = λ c stop all. all;
  none = λ e. refl;
  some = λ e. absurd (false_is e);
}
  where
    false_is : false ≡ true → ⊥
    false_is e = cc

pub emptying_more : (old it new : SideRun) (loaded : Bool) → Emptying old loaded it → LoadsRest (state_of it) (state_of new) → Stays it new → new.peer.wire ≡ it.peer.wire → Emptying old true new
emptying_more old it new loaded h p stays wire = record {
  stays = stays_then old it new h.stays stays;
  wire = wire ∙ h.wire;
  on = λ c stop all. h.on c stop (rest_more (state_of it) (state_of new) c stop p all);
  none = λ e. absurd (true_is e);
  some = λ e. by_loaded loaded refl;
}
  where
    true_is : true ≡ false → ⊥
    true_is e = cc

    by_loaded : (b : Bool) → loaded ≡ b → (state_of old).copies ≢ []
    by_loaded true e = h.some e
    by_loaded false e = λ k. p.awaits (ap (λ (it : SideState). it.copies) (h.none e) ∙ k)

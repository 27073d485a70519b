-- What it comes to that words of a copy are loaded.
use Rattle.std.proofs.Common.{◌≡◌, ◌≢◌, ℕ, ◌+◌, ◌-◌, ◌<◌, ◌≤◌, min, Result, Ok, Err, sym, ap, subst, ◌∙◌, arith}
use Rattle.pair_runs.specs.Sides.{SideState, side_seen, words_left}
use Rattle.script_peers.specs.Peers.{ScriptedPeer}
use Rattle.script_sides.specs.Answering.{Stays}
use Rattle.script_sides.specs.Halves.{HalfState}
use Rattle.script_sides.specs.declared.progress.Progress.{Progress}
use Rattle.script_sides.specs.declared.progress.Progress.TheVariants.{Nothing, Part, Whole}
use Rattle.script_sides.specs.Progressing.{LoadsPart, LoadedBy, with_half, BeginsCopy, unloaded, before}
use Rattle.script_sides.specs.Ready.{IsHalf, IsSound}
use Rattle.script_sides.specs.Sided.{SideRun, state_of}
use Rattle.script_sides.proofs.Backs.{others_left, half_words}
use Rattle.script_sides.proofs.Words.{more_loaded}
use Rattle.side_model.specs.declared.fault.ProxyFault.{ProxyFault}
use Rattle.side_model.specs.State.{Now}

-- a copy of which so many words more are loaded
abbrev pub more_of : ℕ → HalfState → HalfState
more_of count half = record half { loaded = half.loaded + count }

-- ---- the last ones

pub was_so : (count : ℕ) (half new : HalfState) → new ≡ more_of count half → unloaded count new ≡ half
was_so count half new e = ap (λ (it : HalfState). unloaded count it) e ∙ ap (λ (n : ℕ). record half { loaded = n }) (omega arith)

pub last_was : (count : ℕ) (half new : HalfState) (old mid : SideRun) → BeginsCopy half old mid → new ≡ more_of count half → state_of (before count new mid) ≡ state_of old
last_was count half new old mid b e = ap (λ (it : HalfState). state_of (with_half it mid)) (was_so count half new e) ∙ b.same

pub loaded_by : (most count : ℕ) (a b : SideState) (result : Result Progress ProxyFault) → count ≤ most → LoadedBy count a b result → LoadedBy most a b result
loaded_by most count a b (Ok Nothing) l h = h
loaded_by most count a b (Ok (Part n)) l h = record { some = h.some; few = omega (arith, h.few, l); left = h.left; is = h.is }
loaded_by most count a b (Ok (Whole n)) l h = record { awaits = h.awaits; few = omega (arith, h.few, l); all = h.all; some = h.some; works = h.works }
loaded_by most count a b (Err fault) l h = h

-- ---- others are left

-- some words of a copy that is out were loaded, and not the last one
pub record LoadsOn (most count : ℕ) (half new : HalfState) : Type 0 where
  pub some : 0 < most
  pub taken : count ≡ min most (half.count - half.loaded)
  pub is : new ≡ more_of count half
  pub left : half.loaded + count < half.count

pub not_last : (count : ℕ) (half new : HalfState) → new ≡ more_of count half → new.loaded ≤ new.count → new.loaded ≢ new.count → half.loaded + count < half.count
not_last count half new e l n = omega (arith, ap (λ (it : HalfState). it.loaded) e, ap (λ (it : HalfState). it.count) e, l, n)

pub part_loaded : (most count : ℕ) (half new : HalfState) (old mid : SideRun) → BeginsCopy half old mid → LoadsOn most count half new → LoadsPart most count (state_of old) (state_of (with_half new mid))
part_loaded most count half new old mid b l =
    let out : IsHalf mid.peer mid.trail.now half = b.ready.sound.half in
    let words : words_left (side_seen half.loaded mid.trail) ≡ others_left half.loaded out.copies.one + (out.job.part.count - half.loaded) =
    half_words half.loaded out.job mid.trail out.copies (omega (arith, out.begun, out.count)) in
    record {
      some = omega (arith, l.some, l.taken, out.begun);
      few = omega (arith, l.taken);
      left = omega (arith, words, ap words_left b.same, l.left, out.count);
      is =
          ap (λ (it : HalfState). side_seen it.loaded mid.trail) l.is
          ∙ more_loaded half.loaded count out.job mid.trail out.copies
          ∙ ap (λ (s : SideState). record s { loaded = s.loaded + count }) b.same;
    }

more_half : (most count : ℕ) (half new : HalfState) (peer : ScriptedPeer) (s : Now) → LoadsOn most count half new → IsHalf peer s half → IsHalf peer s new
more_half most count half new peer s l h =
    subst (λ (it : HalfState). IsHalf peer s it) (sym l.is) (record {
      job = h.job;
      copies = h.copies;
      eye = h.eye;
      id = h.id;
      first = h.first;
      count = h.count;
      own = h.own;
      begun = l.left;
    })

pub part_stays : (most count : ℕ) (half new : HalfState) (old mid : SideRun) → BeginsCopy half old mid → LoadsOn most count half new → Stays old (with_half new mid)
part_stays most count half new old mid b l =
    let s : IsSound (with_half half mid) = b.ready.sound in
    record {
      ready = record {
        sound = record {
          side = s.side;
          token = s.token;
          runs = s.runs;
          last = s.last;
          own = s.own;
          wire = s.wire;
          half = more_half most count half new mid.peer mid.trail.now l s.half;
          asked = s.asked;
        };
        items = b.ready.items;
        receipts = b.ready.receipts;
      };
      side = ap (λ (peer : ScriptedPeer). peer.side) b.peer;
      up = b.up;
    }

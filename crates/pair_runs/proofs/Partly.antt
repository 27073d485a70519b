-- What a call leaves in part that meets a fault, behind good calls.
use Rattle.std.proofs.Common.{◌≡◌, ℕ, List, [], ◌++◌, Bool, true, Some, None, refl, sym, ap, subst, ◌∙◌, append_assoc, inl, inr, ◌⊎◌}
use Rattle.wl_wire.specs.Wire.{joined, IsMessage}
use Rattle.wp_outside.specs.declared.kinds.Side.{Side}
use Rattle.half_model.specs.declared.causes.Limit.{Limit}
use Rattle.half_model.specs.declared.causes.Limit.TheVariants as limits
use Rattle.half_model.specs.declared.causes.Limit.TheVariants.{Connections, Trail}
use Rattle.half_model.specs.declared.causes.PeerCause.{PeerCause}
use Rattle.half_model.specs.declared.items.PeerIn.TheVariants as inputs
use Rattle.side_model.specs.declared.fault.ProxyFault.{ProxyFault}
use Rattle.side_model.specs.declared.fault.ProxyFault.TheVariants as faults
use Rattle.side_model.specs.declared.fault.ProxyFault.TheVariants.{Memory}
use Rattle.side_model.specs.Books.{Book}
use Rattle.wl_objects.specs.Entries.{Tracked}
use Rattle.pair_runs.specs.Leaving.{Leaves, Passes}
use Rattle.pair_runs.specs.Sides.{SideState}
use Rattle.pair_runs.specs.Whys.{Waits, tracked_by, AtMessage, AtItem, Stands, PassesLimit, Why}
use Rattle.pair_runs.specs.Working.{Works, InPart, WorksInPart}
use Rattle.pair_runs.proofs.Composing.{all_then, joined_then, leaves_then, grows_same, grows_then}
use Rattle.pair_runs.proofs.Ends.{front_same, front_then}
use Rattle.pair_runs.proofs.Tracking.{passes_then}

-- ---- in part

-- where these are as before, none was taken
pub record Nothing (a b : SideState) : Type 0 where
  pub part : InPart a b
  pub none : part.took ≡ []

abbrev pub nothing_took : (a b : SideState) → b.book ≡ a.book → Nothing a b
nothing_took a b e =
    subst (λ (book : Book). Nothing a (record b { book = book })) (sym e)
    (record { part = record { took = []; messages = tt; bytes = record { rest = a.inside.inlet.bytes; is = refl }; trail = grows_same a.book.trail; order = front_same a.book.order }; none = refl })

pub nothing_part : (a b : SideState) → b.book ≡ a.book → InPart a b
nothing_part a b e = (nothing_took a b e).part

-- behind what the call was made for
abbrev pub then_part : (a b c : SideState) → Works true a b → InPart b c → InPart a c
then_part a b c w p = record {
  took = w.took ++ p.took;
  messages = all_then IsMessage w.took p.took w.inside.messages p.messages;
  bytes = record {
    rest = p.bytes.rest;
    is =
        ap (λ (front : List ℕ). front ++ p.bytes.rest) (joined_then w.took p.took)
        ∙ append_assoc (joined w.took) (joined p.took) p.bytes.rest
        ∙ ap (λ (rest : List ℕ). joined w.took ++ rest) p.bytes.is
        ∙ sym w.inside.inlet.bytes;
  };
  trail = grows_then w.took p.took w.trail p.trail;
  order = front_then w.order p.order;
}

-- ---- why, behind good calls

module _ (side : Side) (ws ts : List (List ℕ)) (a b : SideState) (book : Book) (l : Leaves ws a.inside.inlet b.inside.inlet) (q : Passes side l.uses a.inside.objects b.inside.objects a.book.order b.book.order) where
  abbrev then_waits : (objects : Tracked) → Waits side ts b.inside b.book.order book objects → Waits side (ws ++ ts) a.inside a.book.order book objects
  then_waits objects h = record {
    waits = h.waits;
    left = leaves_then ws ts l h.left;
    passes = passes_then side l.uses h.left.uses a.inside.objects b.inside.objects objects a.book.order b.book.order book.order q h.passes;
  }

  then_stands : (index : ℕ) (cause : PeerCause) → Stands side None index cause ts b.inside b.book.order book → Stands side None index cause (ws ++ ts) a.inside a.book.order book
  then_stands index cause h = record { told = h.told; index_is = h.index_is; tracked = h.tracked; at = by_place h.at }
    where
      by_place : AtMessage side h.told.story cause ts b.inside b.book.order book ⊎ AtItem side h.told.story cause ts b.inside b.book.order book None → AtMessage side h.told.story cause (ws ++ ts) a.inside a.book.order book ⊎ AtItem side h.told.story cause (ws ++ ts) a.inside a.book.order book None
      by_place (inl m) = inl (record { behind = then_waits (tracked_by side h.told.story) m.behind; has = m.has })
      by_place (inr i) = absurd (let never : None ≡ Some (inputs.Pipe i.pipe) = i.brought in cc)

  then_passes : (which : Limit) → PassesLimit which side None ts b.inside b.book.order book → PassesLimit which side None (ws ++ ts) a.inside a.book.order book
  then_passes limits.File h = record { told = h.told; behind = then_waits (tracked_by side h.told.story) h.behind; above = h.above }
  then_passes limits.Files h = record { told = h.told; behind = then_waits (tracked_by side h.told.story) h.behind; above = h.above }
  then_passes limits.Trail (inl h) = inl (record { told = h.told; behind = then_waits (tracked_by side h.told.story) h.behind; mark = h.mark; lawful = h.lawful; comes = h.comes; heavy = h.heavy })
  then_passes limits.Trail (inr h) = absurd (let never : None ≡ Some (inputs.Pipe h.pipe) = h.brought in cc)
  then_passes limits.Connections h = h
  then_passes limits.Input h = h
  then_passes limits.Lines h = h

  then_why : (hears : Bool) (fault : ProxyFault) → Why side hears None fault ts b.inside b.book.order book → Why side hears None fault (ws ++ ts) a.inside a.book.order book
  then_why hears (faults.Frame connection place cause) h = h
  then_why hears (faults.Peer index cause) h = then_stands index cause h
  then_why hears (faults.Limit which) h = then_passes which h
  then_why hears Memory h = tt

pub then_works : (hears : Bool) (fault : ProxyFault) (a b c : SideState) → Works true a b → WorksInPart hears None fault b c → WorksInPart hears None fault a c
then_works hears fault a b c w p = record {
  part = then_part a b c w p.part;
  why = then_why c.book.trail.side w.took p.part.took a b c.book w.inside.inlet
      (subst (λ (side : Side). Passes side w.inside.inlet.uses a.inside.objects b.inside.objects a.book.order b.book.order) (sym (p.part.trail.side ∙ w.trail.side)) w.passes) hears fault p.why;
}

use Rattle.std.proofs.Common.{◌≡◌, ℕ, ◌≤◌, length, take, Some, sym, ap, ◌∙◌, subst, refl}
use Rattle.std.specs.Prelude.{slice_get}
use Rattle.pair_audit.proofs.LaneLemmas.{shared, shared_is, same_before, differs_there, all_shared, copied_at}
use Rattle.pair_audit.proofs.lanes.audit_lane.Goals as goal

pub returns-in-None : goal.returns-in-None
returns-in-None c =
    all_shared c.args.read.now c.args.written.now
    (subst (λ (n : ℕ). length c.args.read.now ≤ n) (c.shared_count-place.ensures ∙ shared_is c.args.read.now c.args.written.now) c.in-None.ensures.lookup.3)

pub returns-in-Some : goal.returns-in-Some
returns-in-Some c =
    let place : c.shared_count-place.result ≡ shared c.args.read.now c.args.written.now =
    c.shared_count-place.ensures ∙ shared_is c.args.read.now c.args.written.now in
    let reads : slice_get c.args.read.now c.shared_count-place.result ≡ Some c.in-Some.byte.now =
    copied_at c.args.read.now c.shared_count-place.result (Some c.in-Some.byte) c.in-Some.ensures.lookup.3 in
    let wrote : slice_get c.args.written.now c.shared_count-place.result ≡ c.copied.result =
    copied_at c.args.written.now c.shared_count-place.result c.get-in-Some.result c.get-in-Some.ensures.lookup.3 ∙ sym c.copied.ensures in
    record {
      connection_is = refl;
      direction_is = refl;
      same = subst (λ (n : ℕ). take n c.args.read.now ≡ take n c.args.written.now) (sym place) (same_before c.args.read.now c.args.written.now);
      reads = reads;
      wrote = wrote;
      differs = λ is. differs_there c.args.read.now c.args.written.now c.in-Some.byte.now
          (ap (slice_get c.args.read.now) (sym place) ∙ reads) (ap (slice_get c.args.written.now) (sym place) ∙ wrote ∙ is);
    }

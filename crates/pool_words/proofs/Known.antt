-- The steps at a seat of which a caller knows the view.
use Rattle.std.proofs.Common.{◌≡◌, ℕ, ◌+◌, ◌<◌, length, sym, subst}
use mathlib.Core.Option.{none}
use Rattle.atomic_table.specs.Table.{Me, step, Allows, Splits, Joins}
use Rattle.pool_words.specs.declared.views.Write.{Write}
use Rattle.pool_words.specs.declared.views.View.{View}
use Rattle.pool_words.specs.declared.views.View.TheVariants.{Spent}
use Rattle.pool_words.specs.Views.{noted, divided, absorbed, settling, history_of, settled_of, low_of, seen_of, high_of, loads_of, IsIdle, IsPending, IsEye, IsReceipt}
use Rattle.pool_words.specs.Pool.{Kept, Announces, Stores, Loads, Finishes, Learns}
use Rattle.pool_words.proofs.Steps.{announces_pen, stores_pen, loads_eye, finishes_eye, learns_pen, notes_pen, divides_eye}
use Rattle.pool_words.proofs.Meetings.{absorbs_receipt, settles_receipt}

module _ {S : Type 0} where
  pub announces : (key slots id count : ℕ) (w : Write) (me : Me S View) → IsIdle me.0 → count ≡ length (history_of me.0) + 1
      → Allows (Kept key) slots id me 0 (λ _. count) (λ _. Announces w (step slots 0 count 0 none) me count)
  announces key slots id count w me idle counts =
      let P : View → Type 0 = λ v. Allows (Kept key) slots id (v, me.1) 0 (λ _. count) (λ _. Announces w (step slots 0 count 0 none) (v, me.1) count) in
      subst P (sym idle) (announces_pen key slots id (history_of me.0) (settled_of me.0) me.1 w count counts)

  pub stores : (key slots id i value : ℕ) (me : Me S View) → IsPending i value me.0 → i < key
      → Allows (Kept key) slots id me (i + 1) (λ _. value) (λ _. Stores (step slots (i + 1) value 0 none) me value)
  stores key slots id i value me pending lt =
      let P : View → Type 0 = λ v. Allows (Kept key) slots id (v, me.1) (i + 1) (λ _. value) (λ _. Stores (step slots (i + 1) value 0 none) (v, me.1) value) in
      subst P (sym pending.2) (stores_pen key slots id i value pending.0 pending.1 me.1 lt)

  pub loads : (key slots id i : ℕ) (me : Me S View) → IsEye me.0 → i < key
      → Allows (Kept key) slots id me (i + 1) (λ n. n) (Loads (step slots (i + 1) 0 0 none) me)
  loads key slots id i me eye lt =
      let P : View → Type 0 = λ v. Allows (Kept key) slots id (v, me.1) (i + 1) (λ n. n) (Loads (step slots (i + 1) 0 0 none) (v, me.1)) in
      subst P (sym eye) (loads_eye key slots id i (low_of me.0) (seen_of me.0) me.1 lt)

  pub finishes : (key slots id : ℕ) (me : Me S View) → IsEye me.0 → Allows (Kept key) slots id me 0 (λ n. n) (Finishes (step slots 0 0 0 none) me)
  finishes key slots id me eye =
      let P : View → Type 0 = λ v. Allows (Kept key) slots id (v, me.1) 0 (λ n. n) (Finishes (step slots 0 0 0 none) (v, me.1)) in
      subst P (sym eye) (finishes_eye key slots id (low_of me.0) (seen_of me.0) me.1)

  pub learns : (key slots id : ℕ) (me : Me S View) → IsIdle me.0 → Allows (Kept key) slots id me 0 (λ n. n) (Learns (step slots 0 0 0 none) me)
  learns key slots id me idle =
      let P : View → Type 0 = λ v. Allows (Kept key) slots id (v, me.1) 0 (λ n. n) (Learns (step slots 0 0 0 none) (v, me.1)) in
      subst P (sym idle) (learns_pen key slots id (length (history_of me.0)) (history_of me.0) (settled_of me.0) me.1)

  pub notes : (key id : ℕ) (v : View) → IsIdle v → Splits {S = S} (Kept key) id v v (noted v)
  notes key id v idle =
      let P : View → Type 0 = λ u. Splits {S = S} (Kept key) id u u (noted u) in
      subst P (sym idle) (notes_pen key id (history_of v) (settled_of v))

  pub divides : (key id : ℕ) (v : View) → IsEye v → Splits {S = S} (Kept key) id v v (divided v)
  divides key id v eye =
      let P : View → Type 0 = λ u. Splits {S = S} (Kept key) id u u (divided u) in
      subst P (sym eye) (divides_eye key id (low_of v) (seen_of v))

  pub absorbs : (key id other : ℕ) (v u : View) → IsReceipt v → IsReceipt u → Joins {S = S} (Kept key) id v other u (absorbed v u) Spent
  absorbs key id other v u mine theirs =
      let P : View × View → Type 0 = λ p. Joins {S = S} (Kept key) id p.0 other p.1 (absorbed p.0 p.1) Spent in
      subst P (λ i. (sym mine i, sym theirs i)) (absorbs_receipt key id other (high_of v) (high_of u) (loads_of v) (loads_of u))

  pub settles : (key id other : ℕ) (v u : View) → IsIdle v → IsReceipt u → Joins {S = S} (Kept key) id v other u (settling v u) Spent
  settles key id other v u mine theirs =
      let P : View × View → Type 0 = λ p. Joins {S = S} (Kept key) id p.0 other p.1 (settling p.0 p.1) Spent in
      subst P (λ i. (sym mine i, sym theirs i)) (settles_receipt key id other (length (history_of v)) (high_of u) (history_of v) (settled_of v) (loads_of u))

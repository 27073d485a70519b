use Rattle.std.proofs.Common.{◌≡◌, ◌-◌, ℕ, List, take, drop, subst, sym, ap, ◌∙◌, arith}
use Rattle.wl_wire.specs.Wire.{word_at}
use Rattle.wl_wire.specs.Arguments.{IsString}
use Rattle.wl_wire.proofs.ArgReading.{IsWhole, string-room, string-none, string-some, is_string, is_null, span-counts}
use Rattle.wl_wire.proofs.arg_views.string_view.Goals as goal

pub word_from-count-requires : goal.word_from-count-requires
word_from-count-requires c = string-room c.args.null c.args.bytes.now c.args.size c.requires

pub returns-then-count-eq0 : goal.returns-then-count-eq0
returns-then-count-eq0 c =
    is_null c.args.null c.args.bytes.now c.args.size
    (string-none c.args.null c.args.bytes.now c.args.size c.requires (sym c.word_from-count.ensures ∙ c.if-count-eq0.true))

pub counted-requires : goal.counted-requires
counted-requires c =
    let whole : IsWhole c.args.bytes.now c.args.size =
    string-some c.args.null c.args.bytes.now c.args.size c.requires (λ none. c.if-count-eq0.false (c.word_from-count.ensures ∙ none)) in
    omega (arith, whole.whole, span-counts c.args.bytes.now, c.word_from-count.ensures)

pub returns : goal.returns
returns c =
    let whole : IsWhole c.args.bytes.now c.args.size =
    string-some c.args.null c.args.bytes.now c.args.size c.requires (λ none. c.if-count-eq0.false (c.word_from-count.ensures ∙ none)) in
    let P : List ℕ → Type 0 = λ text. IsString (take c.args.size c.args.bytes.now) text in
    let text : take (word_at c.args.bytes.now 0 - 1) (drop 4 c.args.bytes.now) ≡ c.counted.result.now =
    ap (λ n. take (n - 1) (drop 4 c.args.bytes.now)) (sym c.word_from-count.ensures) ∙ sym c.counted.ensures in
    subst P text (is_string c.args.bytes.now c.args.size whole)

-- Arguments that bytes spell are the values that are read there.
use Rattle.std.proofs.Common.{◌≡◌, ◌≢◌, ℕ, ◌+◌, ◌-◌, List, [], ◌∷◌, ◌++◌, length, take, drop, Bool, Ok, refl, sym, ap, ◌∙◌, arith, length-append, append_assoc, take-append-drop}
use Rattle.std.proofs.lemmas.List.{take_at, drop_at, append-nil}
use Rattle.std.proofs.lemmas.Bool.{eq-eqb, ne_eqb}
use Rattle.wl_wire.specs.declared.arguments.Arg.{Arg}
use Rattle.wl_wire.specs.declared.arguments.Arg.TheVariants as arg
use Rattle.wl_wire.specs.declared.signature.ArgKind.{ArgKind}
use Rattle.wl_wire.specs.declared.signature.ArgKind.TheVariants as kind
use Rattle.wl_wire.specs.declared.signature.Slot.{Slot}
use Rattle.wl_wire.specs.Wire.{word_at}
use Rattle.wl_wire.specs.Arguments.{IsString, IsBind, IsArg, Spells}
use Rattle.wl_wire.specs.ArgFaults.{arg_size}
use Rattle.wl_wire.proofs.FrontLemmas.{word_at-append}
use Rattle.wl_wire.proofs.ArgShapes.{HasCounted, has_counted, arg-size}
use Rattle.wl_wire.proofs.ArgUnique.{counted-is}
use Rattle.wl_wire.specs.ArgValues.{text_in, arg_in, arg_front, args_in}

-- a string at the front
text-front : (front rest text : List ℕ) → IsString front text → text_in (front ++ rest) ≡ text
text-front front rest text it =
    let has : HasCounted (front ++ rest) (text ++ 0 ∷ []) (length front) = has_counted front rest (text ++ 0 ∷ []) it in
    let count : word_at (front ++ rest) 0 - 1 ≡ length text = omega (arith, has.counts, length-append text (0 ∷ [])) in
    let parts : drop 4 (front ++ rest) ≡ text ++ (0 ∷ [] ++ drop (length (text ++ 0 ∷ [])) (drop 4 (front ++ rest))) =
    sym (take-append-drop (length (text ++ 0 ∷ [])) (drop 4 (front ++ rest)))
    ∙ ap (λ list. list ++ drop (length (text ++ 0 ∷ [])) (drop 4 (front ++ rest))) has.behind
    ∙ append_assoc text (0 ∷ []) (drop (length (text ++ 0 ∷ [])) (drop 4 (front ++ rest))) in
    ap (λ n. take n (drop 4 (front ++ rest))) count
    ∙ ap (take (length text)) parts
    ∙ take_at text (0 ∷ [] ++ drop (length (text ++ 0 ∷ [])) (drop 4 (front ++ rest))) (length text) refl

text-whole : (bytes text : List ℕ) → IsString bytes text → text_in bytes ≡ text
text-whole bytes text it = ap text_in (sym (append-nil bytes)) ∙ text-front bytes [] text it

string-counts : (bytes text : List ℕ) → IsString bytes text → word_at bytes 0 ≢ 0
string-counts bytes text it none =
    let has : HasCounted (bytes ++ []) (text ++ 0 ∷ []) (length bytes) = has_counted bytes [] (text ++ 0 ∷ []) it in
    let same : word_at (bytes ++ []) 0 ≡ word_at bytes 0 = ap (λ list. word_at list 0) (append-nil bytes) in
    omega (arith, has.counts, same, none, length-append text (0 ∷ []))

bind-in : (bytes interface : List ℕ) (version id : ℕ) → IsBind bytes interface version id → arg_in kind.Bind bytes ≡ arg.Bind interface version id
bind-in bytes interface version id it =
    let long : length bytes ≡ length it.name + (length it.second + length it.third) =
    ap length it.parts ∙ length-append it.name (it.second ++ it.third) ∙ ap (λ n. length it.name + n) (length-append it.second it.third) in
    let before : length it.name ≡ length bytes - 8 = omega (arith, long, it.versions.four, it.ids.four) in
    let regrouped : bytes ≡ (it.name ++ it.second) ++ it.third = it.parts ∙ sym (append_assoc it.name it.second it.third) in
    let later : length (it.name ++ it.second) ≡ length bytes - 4 =
    omega (arith, long, length-append it.name it.second, it.versions.four, it.ids.four) in
    let text : text_in bytes ≡ interface = ap text_in it.parts ∙ text-front it.name (it.second ++ it.third) interface it.names in
    let words : drop (length bytes - 8) bytes ≡ it.second ++ it.third =
    ap (drop (length bytes - 8)) it.parts ∙ drop_at it.name (it.second ++ it.third) (length bytes - 8) before in
    let last : drop (length bytes - 4) bytes ≡ it.third =
    ap (drop (length bytes - 4)) regrouped ∙ drop_at (it.name ++ it.second) it.third (length bytes - 4) later in
    let second : word_at (drop (length bytes - 8) bytes) 0 ≡ version =
    ap (λ list. word_at list 0) words ∙ word_at-append it.second it.third 0 (omega (arith, it.versions.four)) ∙ it.versions.reads in
    let third : word_at (drop (length bytes - 4) bytes) 0 ≡ id = ap (λ list. word_at list 0) last ∙ it.ids.reads in
    ap (λ list. arg.Bind list (word_at (drop (length bytes - 8) bytes) 0) (word_at (drop (length bytes - 4) bytes) 0)) text
    ∙ ap (λ n. arg.Bind interface n (word_at (drop (length bytes - 4) bytes) 0)) second
    ∙ ap (λ n. arg.Bind interface version n) third

-- one argument
arg-in : (it : ArgKind) (null : Bool) (bytes : List ℕ) (value : Arg) → IsArg it null bytes value → arg_in it bytes ≡ value
arg-in kind.Int null bytes (arg.Int value) h = ap (λ n. arg.Int n) h.reads
arg-in kind.Uint null bytes (arg.Uint value) h = ap (λ n. arg.Uint n) h.reads
arg-in kind.Fixed null bytes (arg.Fixed value) h = ap (λ n. arg.Fixed n) h.reads
arg-in kind.Str null bytes (arg.Str text) h =
    rw (ne_eqb (word_at bytes 0) 0 (string-counts bytes text h)) (ap (λ list. arg.Str list) (text-whole bytes text h))
arg-in kind.Str null bytes arg.NullStr h = rw (eq-eqb (word_at bytes 0) 0 h.1.reads) refl
arg-in kind.Object null bytes (arg.Object id) h = ap (λ n. arg.Object n) h.1.reads
arg-in kind.NewId null bytes (arg.NewId id) h = ap (λ n. arg.NewId n) h.reads
arg-in kind.Bind null bytes (arg.Bind interface version id) h = bind-in bytes interface version id h
arg-in kind.Array null bytes (arg.Array content) h = ap (λ list. arg.Array list) (sym (counted-is bytes content h))
arg-in kind.Handle null bytes arg.Handle h = refl
arg-in _ _ _ _ h = absurd h

-- all of them
pub args-in : (slots : List Slot) (bytes : List ℕ) (args : List Arg) → Spells slots bytes args → args_in slots bytes ≡ args
args-in [] bytes [] h = refl
args-in [] bytes (it ∷ args) h = absurd h
args-in (slot ∷ slots) bytes [] h = absurd h
args-in (slot ∷ slots) bytes (value ∷ args) h =
    let front : List ℕ = h.0 in
    let rest : List ℕ = h.1.0 in
    let parts : bytes ≡ front ++ rest = h.1.1 in
    let size : arg_size slot.kind slot.null bytes ≡ Ok (length front) =
    ap (arg_size slot.kind slot.null) parts ∙ arg-size slot.kind slot.null front rest value h.1.2 in
    let own : take (length front) bytes ≡ front = ap (take (length front)) parts ∙ take_at front rest (length front) refl in
    let left : drop (length front) bytes ≡ rest = ap (drop (length front)) parts ∙ drop_at front rest (length front) refl in
    ap (λ told. arg_front told slot.kind bytes (args_in slots)) size
    ∙ ap (λ list. arg_in slot.kind list ∷ args_in slots (drop (length front) bytes)) own
    ∙ ap (λ list. arg_in slot.kind front ∷ args_in slots list) left
    ∙ ap (λ it. it ∷ args_in slots rest) (arg-in slot.kind slot.null front value h.1.2)
    ∙ ap (λ them. value ∷ them) (args-in slots rest args h.1.3)

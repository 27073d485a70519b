-- How the bytes of arguments are joined, and that what is built is a message.
use Rattle.std.proofs.Common.{◌≡◌, ℕ, ◌+◌, ◌*◌, ◌/◌, ◌%◌, ◌^◌, ◌<◌, ◌≤◌, List, [], ◌∷◌, ◌++◌, length, take, drop, get_or, refl, sym, ap, ◌∙◌, arith, append_assoc, length-append, take-append-drop}
use Rattle.std.proofs.lemmas.List.{take_more, append-nil, drop_at, length-replicate}
use Rattle.std.proofs.lemmas.Nat.{from_le_bytes-to_le_bytes_4}
use Rattle.std.specs.Int.{from_le_bytes, to_le_bytes, w32}
use Rattle.wl_wire.specs.declared.message.TheConstants.{LONGEST_MESSAGE}
use Rattle.wl_wire.specs.declared.arguments.Arg.{Arg}
use Rattle.wl_wire.specs.declared.arguments.Arg.TheVariants.{Int, Uint, Fixed, Str, NullStr, Object, NewId, Bind, Array, Handle}
use Rattle.wl_wire.specs.Wire.{word_at, size_of, IsMessage}
use Rattle.wl_wire.specs.Arguments.{padding_of}
use Rattle.wl_wire.specs.Building.{word_bytes, zeros, counted_bytes, string_bytes_of, arg_bytes, args_bytes, built}
use Rattle.wl_wire.proofs.FrontLemmas.{word_at-append}
use Rattle.wl_wire.proofs.ArgReading.{word_at-drop}

pub args_bytes-append : (front back : List Arg) → args_bytes (front ++ back) ≡ args_bytes front ++ args_bytes back
args_bytes-append [] back = refl
args_bytes-append (arg ∷ front) back =
    ap (λ it. arg_bytes arg ++ it) (args_bytes-append front back) ∙ sym (append_assoc (arg_bytes arg) (args_bytes front) (args_bytes back))

pub args_bytes-next : (args : List Arg) (i : ℕ) (arg : Arg) → i < length args → arg ≡ get_or args i arg → args_bytes (take (i + 1) args) ≡ args_bytes (take i args) ++ arg_bytes arg
args_bytes-next args i arg within at =
    let more : take (i + 1) args ≡ take i args ++ arg ∷ [] =
    take_more args i arg within ∙ ap (λ it. take i args ++ it ∷ []) (sym at) in
    ap args_bytes more ∙ args_bytes-append (take i args) (arg ∷ [])
    ∙ ap (λ it. args_bytes (take i args) ++ it) (append-nil (arg_bytes arg))

pub arg_bytes-bound : (args : List Arg) (i : ℕ) (arg : Arg) → i < length args → arg ≡ get_or args i arg → length (arg_bytes arg) ≤ length (args_bytes args)
arg_bytes-bound args i arg within at =
    let parts : args_bytes args ≡ (args_bytes (take i args) ++ arg_bytes arg) ++ args_bytes (drop (i + 1) args) =
    ap args_bytes (sym (take-append-drop (i + 1) args)) ∙ args_bytes-append (take (i + 1) args) (drop (i + 1) args)
    ∙ ap (λ it. it ++ args_bytes (drop (i + 1) args)) (args_bytes-next args i arg within at) in
    let whole : length (args_bytes args) ≡ length (args_bytes (take i args)) + length (arg_bytes arg) + length (args_bytes (drop (i + 1) args)) =
    ap length parts ∙ length-append (args_bytes (take i args) ++ arg_bytes arg) (args_bytes (drop (i + 1) args))
    ∙ ap (λ n. n + length (args_bytes (drop (i + 1) args))) (length-append (args_bytes (take i args)) (arg_bytes arg)) in
    omega arith

-- a word takes four bytes, and reads as it was
pub length-word_bytes : (value : ℕ) → length (word_bytes value) ≡ 4
unfolding word_bytes
length-word_bytes value = refl

pub word_at-word_bytes : (value : ℕ) → value < 2 ^ 32 → word_at (word_bytes value) 0 ≡ value
unfolding word_at word_bytes
word_at-word_bytes value small =
    let reads : from_le_bytes w32 (to_le_bytes w32 value) ≡ value = from_le_bytes-to_le_bytes_4 value small in
    omega (arith, reads)

-- what is counted fills whole words
pub padded-counted : (content : List ℕ) → length (counted_bytes content) % 4 ≡ 0
unfolding padding_of
padded-counted content =
    let pad : ℕ = padding_of (length content) in
    let filled : length (zeros pad) ≡ pad = length-replicate pad 0 in
    let count : length (word_bytes (length content)) ≡ 4 = length-word_bytes (length content) in
    let behind : length (content ++ zeros pad) ≡ length content + length (zeros pad) = length-append content (zeros pad) in
    let whole : length (word_bytes (length content) ++ (content ++ zeros pad)) ≡ length (word_bytes (length content)) + length (content ++ zeros pad) =
    length-append (word_bytes (length content)) (content ++ zeros pad) in
    let even : (4 + (length content + padding_of (length content))) % 4 ≡ 0 = omega arith in
    ap (λ n. n % 4) (whole ∙ ap (λ n. n + length (content ++ zeros pad)) count ∙ ap (λ n. 4 + n) (behind ∙ ap (λ n. length content + n) filled)) ∙ even

pub padded-sum : (a b : ℕ) → a % 4 ≡ 0 → b % 4 ≡ 0 → (a + b) % 4 ≡ 0
padded-sum a b ha hb = omega arith

pub padded-append : (front back : List ℕ) → length front % 4 ≡ 0 → length back % 4 ≡ 0 → length (front ++ back) % 4 ≡ 0
padded-append front back hf hb = ap (λ n. n % 4) (length-append front back) ∙ padded-sum (length front) (length back) hf hb

pub padded-word : (value : ℕ) → length (word_bytes value) % 4 ≡ 0
padded-word value = ap (λ n. n % 4) (length-word_bytes value)

pub padded-arg : (arg : Arg) → length (arg_bytes arg) % 4 ≡ 0
padded-arg (Int value) = padded-word _
padded-arg (Uint value) = padded-word value
padded-arg (Fixed value) = padded-word _
padded-arg (Str text) = padded-counted (text ++ 0 ∷ [])
padded-arg NullStr = padded-word 0
padded-arg (Object id) = padded-word id
padded-arg (NewId id) = padded-word id
padded-arg (Bind interface version id) =
    padded-append (string_bytes_of interface) (word_bytes version ++ word_bytes id) (padded-counted (interface ++ 0 ∷ []))
    (padded-append (word_bytes version) (word_bytes id) (padded-word version) (padded-word id))
padded-arg (Array content) = padded-counted content
padded-arg Handle = refl

pub padded-args : (args : List Arg) → length (args_bytes args) % 4 ≡ 0
padded-args [] = refl
padded-args (arg ∷ args) = padded-append (arg_bytes arg) (args_bytes args) (padded-arg arg) (padded-args args)

-- what is built is a message
pub length-built : (object opcode : ℕ) (args : List Arg) → length (built object opcode args) ≡ 8 + length (args_bytes args)
length-built object opcode args =
    let second : ℕ = opcode + 2 ^ 16 * (8 + length (args_bytes args)) in
    let a : length (word_bytes object) ≡ 4 = length-word_bytes object in
    let b : length (word_bytes second) ≡ 4 = length-word_bytes second in
    let behind : length (word_bytes second ++ args_bytes args) ≡ length (word_bytes second) + length (args_bytes args) = length-append (word_bytes second) (args_bytes args) in
    let whole : length (built object opcode args) ≡ length (word_bytes object) + length (word_bytes second ++ args_bytes args) = length-append (word_bytes object) (word_bytes second ++ args_bytes args) in
    omega arith

pub size_of-built : (object opcode : ℕ) (args : List Arg) → opcode < 2 ^ 16 → 8 + length (args_bytes args) ≤ LONGEST_MESSAGE → size_of (built object opcode args) ≡ 8 + length (args_bytes args)
unfolding size_of
size_of-built object opcode args low bound =
    let size : ℕ = 8 + length (args_bytes args) in
    let second : ℕ = opcode + 2 ^ 16 * (8 + length (args_bytes args)) in
    let behind : drop 4 (built object opcode args) ≡ word_bytes second ++ args_bytes args =
    drop_at (word_bytes object) (word_bytes second ++ args_bytes args) 4 (length-word_bytes object) in
    let small : second < 2 ^ 32 = omega arith in
    let word : word_at (built object opcode args) 4 ≡ second =
    sym (word_at-drop 4 (built object opcode args)) ∙ ap (λ it. word_at it 0) behind
    ∙ word_at-append (word_bytes second) (args_bytes args) 0 (omega (arith, length-word_bytes second)) ∙ word_at-word_bytes second small in
    let upper : second / 2 ^ 16 % 2 ^ 16 ≡ size = omega arith in
    ap (λ it. it / 2 ^ 16 % 2 ^ 16) word ∙ upper

pub built-message : (object opcode : ℕ) (args : List Arg) → opcode < 2 ^ 16 → 8 + length (args_bytes args) ≤ LONGEST_MESSAGE → IsMessage (built object opcode args)
built-message object opcode args low bound =
    let whole : length (built object opcode args) ≡ 8 + length (args_bytes args) = length-built object opcode args in
    record {
      has_header = omega arith;
      is_bounded = omega arith;
      is_padded = ap (λ n. n % 4) whole ∙ padded-sum 8 (length (args_bytes args)) refl (padded-args args);
      is_counted = size_of-built object opcode args low bound ∙ sym whole;
    }

-- how long the bytes of the arguments are
pub length_word : (value : ℕ) → length (word_bytes value) ≡ 4
length_word value = length-word_bytes value

pub length_counted : (content : List ℕ) → length (counted_bytes content) ≡ 4 + (length content + padding_of (length content))
length_counted content =
    let pad : ℕ = padding_of (length content) in
    length-append (word_bytes (length content)) (content ++ zeros pad)
    ∙ ap (λ n. n + length (content ++ zeros pad)) (length-word_bytes (length content))
    ∙ ap (λ n. 4 + n) (length-append content (zeros pad) ∙ ap (λ n. length content + n) (length-replicate pad 0))

pub length_string : (text : List ℕ) → length (string_bytes_of text) ≡ 4 + (length text + 1 + padding_of (length text + 1))
length_string text =
    length_counted (text ++ 0 ∷ []) ∙ ap (λ n. 4 + (n + padding_of n)) (length-append text (0 ∷ []) ∙ omega arith)

pub length_bind : (interface : List ℕ) (version id : ℕ) → length (arg_bytes (Bind interface version id)) ≡ length (string_bytes_of interface) + 8
length_bind interface version id =
    length-append (string_bytes_of interface) (word_bytes version ++ word_bytes id)
    ∙ ap (λ n. length (string_bytes_of interface) + n) (length-append (word_bytes version) (word_bytes id) ∙ omega (arith, length-word_bytes version, length-word_bytes id))

pub padding_small : (count : ℕ) → padding_of count < 4
unfolding padding_of
padding_small count = omega arith

-- the first arguments are no longer than all of them
pub front_bound : (args : List Arg) (i : ℕ) → length (args_bytes (take i args)) ≤ length (args_bytes args)
front_bound args i =
    let parts : args_bytes args ≡ args_bytes (take i args) ++ args_bytes (drop i args) =
    ap args_bytes (sym (take-append-drop i args)) ∙ args_bytes-append (take i args) (drop i args) in
    omega (arith, ap length parts, length-append (args_bytes (take i args)) (args_bytes (drop i args)))

pub length_next : (args : List Arg) (i : ℕ) (arg : Arg) → i < length args → arg ≡ get_or args i arg → length (args_bytes (take (i + 1) args)) ≡ length (args_bytes (take i args)) + length (arg_bytes arg)
length_next args i arg within at = ap length (args_bytes-next args i arg within at) ∙ length-append (args_bytes (take i args)) (arg_bytes arg)

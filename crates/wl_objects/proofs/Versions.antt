-- A message with another last word is a message still.
use Rattle.std.proofs.Common.{◌≡◌, ℕ, ◌-◌, ◌≤◌, ◌%◌, List, [], length, take, arith, sym, ap, ◌∙◌, length-append, Ok, Some}
use Rattle.std.proofs.lemmas.List.{append-nil, length-take-le}
use Rattle.wl_wire.specs.Wire.{first, size_of, IsMessage}
use Rattle.wl_wire.specs.Building.{word_bytes}
use Rattle.wl_wire.proofs.FrontLemmas.{size_of-append, size_of-take, first-message}
use Rattle.wl_wire.proofs.BuildingLemmas.{length-word_bytes}
use Rattle.wl_objects.specs.Registry.{with_version}

length_with_version : (message : List ℕ) (version : ℕ) → 12 ≤ length message → length (with_version message version) ≡ length message
length_with_version message version long =
    omega (arith, length-append (take (length message - 4) message) (word_bytes version), length-word_bytes version, length-take-le (length message - 4) message (omega arith))

size_with_version : (message : List ℕ) (version : ℕ) → 12 ≤ length message → size_of (with_version message version) ≡ size_of message
size_with_version message version long =
    let front : length (take (length message - 4) message) ≡ length message - 4 = length-take-le (length message - 4) message (omega arith) in
    size_of-append (take (length message - 4) message) (word_bytes version) (omega (arith, front))
    ∙ size_of-take (length message - 4) message (omega arith) (omega arith)

pub whole_with_version : (message : List ℕ) (version : ℕ) → IsMessage message → 12 ≤ length message → IsMessage (with_version message version)
whole_with_version message version whole long =
    let same : length (with_version message version) ≡ length message = length_with_version message version long in
    record {
      has_header = omega (arith, same, whole.has_header);
      is_bounded = omega (arith, same, whole.is_bounded);
      is_padded = ap (λ n. n % 4) same ∙ whole.is_padded;
      is_counted = size_with_version message version long ∙ whole.is_counted ∙ sym same;
    }

-- it stands at the front
pub first_with_version : (message : List ℕ) (version : ℕ) → IsMessage message → 12 ≤ length message → first (with_version message version) ≡ Ok (Some (with_version message version))
first_with_version message version whole long =
    ap first (sym (append-nil (with_version message version)))
    ∙ first-message (with_version message version) [] (whole_with_version message version whole long)

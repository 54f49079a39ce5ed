-- The sizes of what is recorded.
use Rattle.std.proofs.Common.{◌≡◌, ℕ, zero, suc, ◌+◌, refl, sym, ◌∙◌, ap, List, [], ◌∷◌, length, map, get_or, set}
use Rattle.std.proofs.lemmas.List.{map-set, set-get_or, length-append, length-replicate, length-set}
use Rattle.value_order.specs.declared.TheConstants.{NOTHING}
use Rattle.value_order.specs.declared.order.Order.{Order}
use Rattle.token_cut.specs.Parts.{PartValues, no_part, part_at}
use Rattle.token_cut.specs.Shapes.{PartStarts, HaveShape, fresh_part, size_of, sizes_of, sizes_in}
use Rattle.token_cut.specs.CutValues.{CutValues}
use Rattle.token_cut.specs.Recording.{with_value}
use Rattle.token_cut.specs.Late.{mail_lowered, parts_lowered}
use Rattle.token_cut.specs.Steps.{Step, Marks, Comes, after_step, IsAllowed}
use Rattle.token_cut.specs.Sizes.{SizesStay}

first : List (ℕ × ℕ) → ℕ × ℕ
first [] = (0, 0)
first (x ∷ xs) = x

rest : List (ℕ × ℕ) → List (ℕ × ℕ)
rest [] = []
rest (x ∷ xs) = xs

pair : (a b c d : ℕ) → a ≡ c → b ≡ d → (let p : ℕ × ℕ = (a, b) in let q : ℕ × ℕ = (c, d) in p ≡ q)
pair a b c d e f = λ i. (e i, f i)

shaped_sizes : (shape : List PartStarts) (parts : List PartValues) → HaveShape shape parts → sizes_of parts ≡ sizes_in shape
shaped_sizes [] [] h = refl
shaped_sizes [] (part ∷ parts) h = absurd h
shaped_sizes (starts ∷ shape) [] h = absurd h
shaped_sizes (starts ∷ shape) (part ∷ parts) h =
    let values = h.0 in
    let mail = h.1 in
    let more = shaped_sizes shape parts h.2 in
    λ i. (values i, mail i) ∷ more i

sized_shape : (shape : List PartStarts) (parts : List PartValues) → sizes_of parts ≡ sizes_in shape → HaveShape shape parts
unfolding first rest
sized_shape [] [] e = tt
sized_shape [] (part ∷ parts) e = absurd (cc)
sized_shape (starts ∷ shape) [] e = absurd (cc)
sized_shape (starts ∷ shape) (part ∷ parts) e =
    (ap (λ l. (first l).0) e, ap (λ l. (first l).1) e, sized_shape shape parts (ap rest e))

fresh_sizes : (shape : List PartStarts) → sizes_of (map fresh_part shape) ≡ sizes_in shape
fresh_sizes [] = refl
fresh_sizes (starts ∷ shape) =
    let values = length-append starts.owned starts.mirrors in
    let mail = length-replicate (length starts.mirrors) NOTHING in
    let more = fresh_sizes shape in
    λ i. (values i, mail i) ∷ more i

pub size_at : (parts : List PartValues) (k : ℕ) → get_or (sizes_of parts) k (size_of no_part) ≡ size_of (part_at k parts)
size_at [] k = refl
size_at (part ∷ parts) zero = refl
size_at (part ∷ parts) (suc k) = size_at parts k

-- a part of the same size in the place of another
pub set_size : (parts : List PartValues) (k : ℕ) (part : PartValues) → size_of part ≡ size_of (part_at k parts) → sizes_of (set parts k part) ≡ sizes_of parts
set_size parts k part e =
    map-set size_of parts k part
    ∙ (ap (set (sizes_of parts) k) (e ∙ sym (size_at parts k)) ∙ set-get_or (sizes_of parts) k (size_of no_part))

step_size : (step : Step) (c : CutValues) → IsAllowed step c → sizes_of (after_step step c).parts ≡ sizes_of c.parts
step_size (Marks k part) c h = set_size c.parts k part (pair _ _ _ _ h.3 h.4)
step_size (Comes l) c h =
    set_size c.parts l.worker (with_value c.order l.mirror l.value (part_at l.worker c.parts)) (pair _ _ _ _ refl (length-set (part_at l.worker c.parts).mail l.mirror _))

mail_length : (o : Order) (m : ℕ) (came : ℕ → List ℕ) (mail : List ℕ) → length (mail_lowered o m came mail) ≡ length mail
mail_length o m came [] = refl
mail_length o m came (x ∷ mail) = ap suc (mail_length o (m + 1) came mail)

lowered_sizes : (o : Order) (k : ℕ) (came : ℕ → ℕ → List ℕ) (parts : List PartValues) → sizes_of (parts_lowered o k came parts) ≡ sizes_of parts
lowered_sizes o k came [] = refl
lowered_sizes o k came (part ∷ parts) =
    let mail = mail_length o 0 (came k) part.mail in
    let more = lowered_sizes o (k + 1) came parts in
    λ i. (length part.values, mail i) ∷ more i

pub sizes_stay : SizesStay
sizes_stay = record {
  shape = λ shape parts. (shaped_sizes shape parts, sized_shape shape parts);
  new = λ shape. fresh_sizes shape.parts;
  step = step_size;
  lowered = λ came c. lowered_sizes c.order 0 came c.parts;
}

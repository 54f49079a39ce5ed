-- Each step keeps the rule of the lock.
use Rattle.std.proofs.Common.{◌≡◌, ◌≢◌, ℕ, ◌+◌, ◌<◌, Bool, true, eqb, cond, List, [], ◌∷◌, ◌++◌, length, get_or, set, sym, refl, ap, ◌∙◌, subst, ⊎_elim, arith, Option, Some, length-set, get_or-set_same, get_or-set_other, eq-eqb, ne_eqb}
use Rattle.std.proofs.lemmas.Bool.{false≢true}
use Rattle.std.proofs.lemmas.Option.{same_Some}
use mathlib.Core.Logic.{dite}
use mathlib.Core.Option.{none, some, some-injective, some-ne-none}
use mathlib.Core.Option as maybe
use native.Mathlib.Decide.{ℕ_discrete}
use lib.ListN.{get_elem?}
use prog.Atomic.{either}
use Rattle.atomic_table.specs.Table.{State, Me, step, keeps, takes, gives, stepped, Allows, Splits, Joins, opening, Final, Seen}
use Rattle.atomic_table.proofs.Lists.{at_set, set_here, set_else, set_again, at_longer}
use Rattle.noted_lock.specs.declared.view.Claim.{Claim}
use Rattle.noted_lock.specs.declared.view.View.{View}
use Rattle.noted_lock.specs.Rule.{notes_of, note_in, claim, outside, within, maker, keeper, spent, Fits, Kept}
use Rattle.noted_lock.specs.Plays.{took, recorded, gave, made_one, next_seat, both}
use Rattle.noted_lock.proofs.Places.{put, put_here, put_else, set_at, snoc_at, in_append, only, one_of, alone, once_in_both, length-notes_of, note_in-notes_of}

views_stay : (K : ℕ → View → Type 0) (vs : List View) (me : ℕ) (w : View) → K me w → ((j : ℕ) (d : View) → j ≢ me → get_elem? vs j ≡ some d → K j d)
    → (j : ℕ) (d : View) → get_elem? (set vs me w) j ≡ some d → K j d
views_stay K vs me w mine others j d e = ⊎_elim (λ (t : (j ≡ me) × (w ≡ d)). subst (λ (x : ℕ × View). K x.0 x.1) (λ i. (sym t.0 i, t.1 i)) mine)
    (λ (t : (j ≢ me) × (get_elem? vs j ≡ some d)). others j d t.0 t.1) (at_set vs me j w d e)

pub moved : (owner : ℕ → ℕ) (k k' a b : ℕ) → owner k ≡ a → k' ≡ k → owner k' ≡ b → a ≡ b
moved owner k k' a b e f g = sym e ∙ (ap owner (sym f) ∙ g)

module _ {T : Type 0} (tell : T → ℕ → List ℕ) (seats slots : ℕ) where
  abbrev St : Type 0
  St = State (Option T) View

  abbrev M : Type 0
  M = Me (Option T) View

  abbrev Homes : Type 0
  Homes = List (maybe.Option (Option T))

  abbrev Rule : St → Type 0
  Rule = Kept tell seats

  abbrev Fit : ℕ → Homes → (ℕ → List ℕ) → (ℕ → ℕ) → ℕ → ℕ → ℕ → View → Type 0
  Fit = Fits seats

  -- a slot that is out is not at home
  away : (hs : Homes) (y : Option T) → get_elem? hs 0 ≡ some none → get_elem? hs 0 ≡ some (some y) → ⊥
  away hs y a b = some-ne-none y (sym (some-injective none (some y) (sym a ∙ b)))

  same_home : (hs : Homes) (x y : T) → get_elem? hs 0 ≡ some (some (Some x)) → get_elem? hs 0 ≡ some (some (Some y)) → x ≡ y
  same_home hs x y a b = same_Some x y (some-injective (Some x) (Some y) (some-injective (some (Some x)) (some (Some y)) (sym a ∙ b)))

  -- a step of the seat id, after which the word is n
  placed : (s : St) (r : Rule s) (n id : ℕ) (homes' : Homes) (w : View) (note' : ℕ → List ℕ) (holder' : ℕ) → length homes' ≡ 1 → n < 2
      → ((x : T) → get_elem? homes' 0 ≡ some (some (Some x)) → (k : ℕ) → k < seats → tell x k ≡ note' k)
      → (n ≡ 0 → (x : T) × (get_elem? homes' 0 ≡ some (some (Some x))))
      → (n ≡ 1 → (v : View) × (get_elem? (set s.views id w) holder' ≡ some v) × (v.inside ≡ true))
      → Fit n homes' note' r.owner holder' r.count id w
      → ((j : ℕ) (d : View) → j ≢ id → get_elem? s.views j ≡ some d → Fit n homes' note' r.owner holder' r.count j d)
      → Rule record { words = set s.words 0 n; homes = homes'; views = set s.views id w }
  placed s r n id homes' w note' holder' deep small shelf free taken mine others =
      let wide = r.wide in let e : get_or (set s.words 0 n) 0 0 ≡ n = get_or-set_same s.words 0 n 0 (omega arith) in record {
        note = note';
        owner = r.owner;
        holder = holder';
        count = r.count;
        wide = length-set s.words 0 n ∙ r.wide;
        deep = deep;
        bit = subst (λ (z : ℕ). z < 2) (sym e) small;
        room = r.room;
        shelf = shelf;
        free = λ z. free (sym e ∙ z);
        taken = λ z. taken (sym e ∙ z);
        each_view = λ j v at. subst (λ (z : ℕ). Fit z homes' note' r.owner holder' r.count j v) (sym e) (views_stay (Fit n homes' note' r.owner holder' r.count) s.views id w mine others j v at);
      }

  taking : (n : ℕ) (c : Claim) (id : ℕ) → Allows Rule slots id (outside n c, []) 0 (λ z. either (eqb z 0) 1 z) (took tell (step slots 0 0 1 none) (outside n c, []))
  taking n c id s r _ at _ = let x : ℕ = get_or s.words 0 0 in let f = r.each_view id (outside n c) at in let cl = f.each_claim 0 c refl in let room = r.room in dite (ℕ_discrete x 0)
      (λ (hit : x ≡ 0). let t = r.free hit in let v : T = t.0 in let w : View = within n c (notes_of (tell v) n) in let depth = r.deep in let gone : get_elem? (set s.homes 0 none) 0 ≡ some none = set_here s.homes 0 none (omega arith) in (
        w,
        takes 0 (Some v),
        t.1,
        subst (λ (b : Bool). Rule (stepped s 0 (either b 1 x) id [] w (takes 0 (Some v)))) (sym (eq-eqb x 0 hit))
            (placed s r 1 id (set s.homes 0 none) w r.note id (length-set s.homes 0 none ∙ r.deep) (omega arith)
            (λ y e. absurd (away (set s.homes 0 none) (Some y) gone e))
            (λ z. absurd (omega arith))
            (λ _. (w, set_at s.views id (outside n c) w at, refl))
            record {
              each_once = f.each_once;
              each_claim = f.each_claim;
              turn = λ _. (refl, refl, length-notes_of (tell v) n ∙ cl.3, (λ k l. note_in-notes_of (tell v) n k (subst (λ (z : ℕ). k < z) (sym cl.3) l) ∙ r.shelf v t.1 k l), cl.3, (c, refl));
              out = λ _ _. gone;
              making = λ z. absurd (omega arith);
            }
            (λ j d ne atd. let g = r.each_view j d atd in record {
              each_once = g.each_once;
              each_claim = g.each_claim;
              turn = λ inn. let one : x ≡ 1 = (g.turn inn).0 in absurd (omega arith);
              out = λ inn _. let one : x ≡ 1 = (g.turn inn).0 in absurd (omega arith);
              making = λ z. let one : x ≡ 1 = (g.turn (g.making z).0).0 in absurd (omega arith);
            })),
        ((λ _. (v, refl, refl, (let lt = cl.0 in let le = cl.3 in let g : c.number < n = omega arith in g), r.shelf v t.1 c.number (omega arith) ∙ cl.2)), λ no. absurd (no hit)),
      ))
      (λ (miss : x ≢ 0). (
        outside n c,
        keeps,
        tt,
        subst (λ (b : Bool). Rule (stepped s 0 (either b 1 x) id [] (outside n c) keeps)) (sym (ne_eqb x 0 miss))
            (placed s r x id s.homes (outside n c) r.note r.holder r.deep r.bit r.shelf r.free
            (λ z. subst (λ (vs : List View). (v : View) × (get_elem? vs r.holder ≡ some v) × (v.inside ≡ true)) (sym (set_again s.views id (outside n c) at)) (r.taken z))
            f (λ j d _ atd. r.each_view j d atd)),
        ((λ hit. absurd (miss hit)), λ _. refl),
      ))

  pub takes_turn : (n : ℕ) (c : Claim) (id : ℕ) (me : M) → me ≡ (outside n c, []) → Allows Rule slots id me 0 (λ z. either (eqb z 0) 1 z) (took tell (step slots 0 0 1 none) me)
  takes_turn n c id me e = subst (λ (m : M). Allows Rule slots id m 0 (λ z. either (eqb z 0) 1 z) (took tell (step slots 0 0 1 none) m)) (sym e) (taking n c id)

  recording : (what : List ℕ) (n : ℕ) (c : Claim) (notes : List (List ℕ)) (cs : List (ℕ × Option T)) (id : ℕ)
      → Allows Rule slots id (within n c notes, cs) 0 (λ _. 1) (λ _. recorded what (step slots 0 1 0 none) (within n c notes, cs) 1)
  recording what n c notes cs id s r _ at _ =
      let f = r.each_view id (within n c notes) at in let cl = f.each_claim 0 c refl in let tu = f.turn refl in let gone = f.out refl refl in
      let w : View = within n (claim c.number what) (set notes c.number what) in let note' : ℕ → List ℕ = put r.note c.number what in
      let here : c.number < length notes = (let lt = cl.0 in let le = r.room in let e = tu.2 in let g : c.number < length notes = omega arith in g) in (
        w,
        keeps,
        tt,
        placed s r 1 id s.homes w note' id r.deep (omega arith)
            (λ y e. absurd (away s.homes (Some y) gone e))
            (λ z. absurd (omega arith))
            (λ _. (w, set_at s.views id (within n c notes) w at, refl))
            record {
              each_once = alone (claim c.number what);
              each_claim = λ i d e. subst (λ (z : Claim). (z.number < r.count) × (r.owner z.number ≡ id) × (note' z.number ≡ z.note) × (n ≡ seats)) (only (claim c.number what) d i e).1 (cl.0, cl.1, put_here r.note c.number what, cl.3);
              turn = λ _. (
                refl,
                refl,
                length-set notes c.number what ∙ tu.2,
                (λ k l. dite (ℕ_discrete k c.number)
                    (λ (e : k ≡ c.number). subst (λ (z : ℕ). note_in (set notes c.number what) z ≡ note' z) (sym e) (get_or-set_same notes c.number what [] here ∙ sym (put_here r.note c.number what)))
                    (λ (ne : k ≢ c.number). get_or-set_other notes c.number k what [] ne ∙ (tu.3 k l ∙ sym (put_else r.note c.number what k ne)))),
                tu.4,
                (claim c.number what, refl),
              );
              out = λ _ _. gone;
              making = λ z. absurd (omega arith);
            }
            (λ j d ne atd. let g = r.each_view j d atd in record {
              each_once = g.each_once;
              each_claim = λ i e q. let t = g.each_claim i e q in (t.0, t.1, put_else r.note c.number what e.number (λ same. ne (sym t.1 ∙ (ap r.owner same ∙ cl.1))) ∙ t.2, t.3);
              turn = λ inn. absurd (ne (sym (g.turn inn).1 ∙ tu.1));
              out = g.out;
              making = λ z. absurd (ne (sym (g.turn (g.making z).0).1 ∙ tu.1));
            }),
        (refl, refl),
      )

  pub records_note : (what : List ℕ) (n : ℕ) (c : Claim) (notes : List (List ℕ)) (cs : List (ℕ × Option T)) (id : ℕ) (me : M) → me ≡ (within n c notes, cs)
      → Allows Rule slots id me 0 (λ _. 1) (λ _. recorded what (step slots 0 1 0 none) me 1)
  records_note what n c notes cs id me e = subst (λ (m : M). Allows Rule slots id m 0 (λ _. 1) (λ _. recorded what (step slots 0 1 0 none) m 1)) (sym e) (recording what n c notes cs id)

  -- another seat's view, where the seat that was inside goes out
  beside : (word : ℕ) (hs hs' : Homes) (note : ℕ → List ℕ) (owner : ℕ → ℕ) (holder count id j : ℕ) (d : View) → j ≢ id → holder ≡ id → Fit word hs note owner holder count j d → Fit 0 hs' note owner holder count j d
  beside word hs hs' note owner holder count id j d ne here g = record {
    each_once = g.each_once;
    each_claim = g.each_claim;
    turn = λ inn. absurd (ne (sym (g.turn inn).1 ∙ here));
    out = λ inn _. absurd (ne (sym (g.turn inn).1 ∙ here));
    making = λ z. absurd (ne (sym (g.turn (g.making z).0).1 ∙ here));
  }

  rests : (n : ℕ) (c : Claim) (hs : Homes) (note : ℕ → List ℕ) (owner : ℕ → ℕ) (holder count id word : ℕ)
      → ((i : ℕ) (d : Claim) → get_elem? (c ∷ []) i ≡ some d → (d.number < count) × (owner d.number ≡ id) × (note d.number ≡ d.note) × (n ≡ seats)) → Fit word hs note owner holder count id (outside n c)
  rests n c hs note owner holder count id word claims = record {
    each_once = alone c;
    each_claim = claims;
    turn = λ inn. absurd (false≢true inn);
    out = λ inn _. absurd (false≢true inn);
    making = λ z. absurd (omega arith);
  }

  giving : (n : ℕ) (c : Claim) (notes : List (List ℕ)) (x : T) (id : ℕ) → ((k : ℕ) → k < n → k ≢ c.number → tell x k ≡ note_in notes k) → tell x c.number ≡ c.note
      → Allows Rule slots id (within n c notes, (0, Some x) ∷ []) 0 (λ _. 0) (λ _. gave (step slots 0 0 0 none) (within n c notes, (0, Some x) ∷ []) 0)
  giving n c notes x id same mine s r _ at _ =
      let f = r.each_view id (within n c notes) at in let tu = f.turn refl in let cl = f.each_claim 0 c refl in let depth = r.deep in
      let hs : Homes = set s.homes 0 (some (Some x)) in let back : get_elem? hs 0 ≡ some (some (Some x)) = set_here s.homes 0 (some (Some x)) (omega arith) in (
        outside n c,
        gives,
        tt,
        placed s r 0 id hs (outside n c) r.note r.holder (length-set s.homes 0 (some (Some x)) ∙ r.deep) (omega arith)
            (λ y e k l. subst (λ (z : T). tell z k ≡ r.note k) (same_home hs x y back e) (dite (ℕ_discrete k c.number)
            (λ (h : k ≡ c.number). subst (λ (z : ℕ). tell x z ≡ r.note z) (sym h) (mine ∙ sym cl.2))
            (λ (ne : k ≢ c.number). same k (subst (λ (z : ℕ). k < z) (sym tu.4) l) ne ∙ tu.3 k l)))
            (λ _. (x, back))
            (λ z. absurd (omega arith))
            (rests n c hs r.note r.owner r.holder r.count id 0 f.each_claim)
            (λ j d ne atd. beside (get_or s.words 0 0) s.homes hs r.note r.owner r.holder r.count id j d ne tu.1 (r.each_view j d atd)),
        (refl, refl),
      )

  pub gives_turn : (n : ℕ) (c : Claim) (notes : List (List ℕ)) (x : T) (id : ℕ) (me : M) → me ≡ (within n c notes, (0, Some x) ∷ []) → ((k : ℕ) → k < n → k ≢ c.number → tell x k ≡ note_in notes k) → tell x c.number ≡ c.note
      → Allows Rule slots id me 0 (λ _. 0) (λ _. gave (step slots 0 0 0 none) me 0)
  gives_turn n c notes x id me e same mine = subst (λ (m : M). Allows Rule slots id m 0 (λ _. 0) (λ _. gave (step slots 0 0 0 none) m 0)) (sym e) (giving n c notes x id same mine)

  opening_up : (n : ℕ) (c : Claim) (made : ℕ) (notes : List (List ℕ)) (id : ℕ) → 0 < made
      → Allows Rule slots id (maker n c made notes, []) 0 (λ _. 0) (λ _. gave (step slots 0 0 0 none) (maker n c made notes, []) 0)
  opening_up n c made notes id some_made s r _ at _ =
      let f = r.each_view id (maker n c made notes) at in let tu = f.turn refl in (
        outside n c,
        keeps,
        tt,
        placed s r 0 id s.homes (outside n c) r.note r.holder r.deep (omega arith) r.shelf
            (λ _. (f.making some_made).2)
            (λ z. absurd (omega arith))
            (rests n c s.homes r.note r.owner r.holder r.count id 0 f.each_claim)
            (λ j d ne atd. beside (get_or s.words 0 0) s.homes s.homes r.note r.owner r.holder r.count id j d ne tu.1 (r.each_view j d atd)),
        (refl, refl),
      )

  -- the making seat gives the turn back
  pub opens_turn : (n : ℕ) (c : Claim) (made : ℕ) (notes : List (List ℕ)) (id : ℕ) (me : M) → me ≡ (maker n c made notes, []) → 0 < made
      → Allows Rule slots id me 0 (λ _. 0) (λ _. gave (step slots 0 0 0 none) me 0)
  opens_turn n c made notes id me e some_made = subst (λ (m : M). Allows Rule slots id m 0 (λ _. 0) (λ _. gave (step slots 0 0 0 none) m 0)) (sym e) (opening_up n c made notes id some_made)

  splitting : (n : ℕ) (c : Claim) (made : ℕ) (notes : List (List ℕ)) (id : ℕ) → 0 < made → made < n
      → Splits Rule id (maker n c made notes) (maker n c (made + 1) notes) (outside n (claim made c.note))
  splitting n c made notes id some_made lt s r at =
      let f = r.each_view id (maker n c made notes) at in let tu = f.turn refl in let mk = f.making some_made in let is : made ≡ r.count = mk.1 in let cl = f.each_claim 0 c refl in
      let below : made < seats = (let q = tu.4 in omega arith) in let first : 0 < seats = (let q = below in omega arith) in
      let own : c.number < seats = (let l = cl.0 in let le = r.room in omega arith) in
      let ground : note_in notes made ≡ c.note = mk.3 made below ∙ (sym (mk.3 c.number own) ∙ (tu.3 c.number own ∙ cl.2)) in
      let new : ℕ = length s.views in let grown : View = maker n c (made + 1) notes in let owner' : ℕ → ℕ = put r.owner made new in
      let older : (k : ℕ) → k < r.count → (k < made + 1) × (owner' k ≡ r.owner k) = (λ k l. ((let g : k < made + 1 = omega arith in g), put_else r.owner made new k (λ e. let b : ⊥ = omega arith in b))) in
      let fit : ℕ → View → Type 0 = Fit (get_or s.words 0 0) s.homes r.note owner' r.holder (made + 1) in record {
        note = r.note;
        owner = owner';
        holder = r.holder;
        count = made + 1;
        wide = r.wide;
        deep = r.deep;
        bit = r.bit;
        room = let e = tu.4 in omega arith;
        shelf = r.shelf;
        free = r.free;
        taken = λ _. (grown, subst (λ (h : ℕ). get_elem? (set s.views id grown ++ outside n (claim made c.note) ∷ []) h ≡ some grown) (sym tu.1) (at_longer (set s.views id grown) (outside n (claim made c.note) ∷ []) id grown (set_at s.views id (maker n c made notes) grown at)), refl);
        each_view = λ j v e. ⊎_elim
            (λ (h : get_elem? (set s.views id grown) j ≡ some v). views_stay fit s.views id grown
            record {
              each_once = f.each_once;
              each_claim = λ i d q. let t = f.each_claim i d q in ((older d.number t.0).0, (older d.number t.0).1 ∙ t.1, t.2, t.3);
              turn = λ _. tu;
              out = λ _ z. absurd (omega arith);
              making = λ _. (refl, refl, mk.2, mk.3);
            }
            (λ i d ne atd. let g = r.each_view i d atd in record {
              each_once = g.each_once;
              each_claim = λ m q p. let t = g.each_claim m q p in ((older q.number t.0).0, (older q.number t.0).1 ∙ t.1, t.2, t.3);
              turn = g.turn;
              out = g.out;
              making = λ z. absurd (ne (sym (g.turn (g.making z).0).1 ∙ tu.1));
            }) j v h)
            (λ (h : (j ≡ length (set s.views id grown)) × (outside n (claim made c.note) ≡ v)). subst (λ (z : ℕ × View). fit z.0 z.1) (λ i. (sym (h.0 ∙ length-set s.views id grown) i, h.1 i))
            (rests n (claim made c.note) s.homes r.note owner' r.holder (made + 1) new (get_or s.words 0 0)
            (λ i d q. subst (λ (z : Claim). (z.number < made + 1) × (owner' z.number ≡ new) × (r.note z.number ≡ z.note) × (n ≡ seats)) (only (claim made c.note) d i q).1
            ((let g : made < made + 1 = omega arith in g), put_here r.owner made new, sym (tu.3 made below) ∙ ground, tu.4))))
            (snoc_at (set s.views id grown) (outside n (claim made c.note)) v j e);
      }

  pub splits_seat : (n : ℕ) (c : Claim) (made : ℕ) (notes : List (List ℕ)) (id : ℕ) (v : View) → v ≡ maker n c made notes → 0 < made → made < n
      → Splits Rule id v (made_one v) (next_seat v)
  splits_seat n c made notes id v e some_made lt = subst (λ (z : View). Splits Rule id z (made_one z) (next_seat z)) (sym e) (splitting n c made notes id some_made lt)

  joining : (n : ℕ) (a : Claim) (firsts : List Claim) (m : ℕ) (others : List Claim) (id other : ℕ)
      → Joins Rule id (keeper n (a ∷ firsts)) other (keeper m others) (keeper n (others ++ a ∷ firsts)) spent
  joining n a firsts m others id other s r at apart at-2 =
      let mine : View = keeper n (a ∷ firsts) in let theirs : View = keeper m others in let joined : View = keeper n (others ++ a ∷ firsts) in
      let there : get_elem? s.views other ≡ some theirs = sym (set_else s.views id other joined apart) ∙ at-2 in
      let f = r.each_view id mine at in let g = r.each_view other theirs there in let in_step : n ≡ seats = (f.each_claim 0 a refl).3 in
      let owner' : ℕ → ℕ = λ k. cond (eqb (r.owner k) other) id (r.owner k) in
      let moves : (k : ℕ) → r.owner k ≡ other → owner' k ≡ id = (λ k e. ap (λ (b : Bool). cond b id (r.owner k)) (eq-eqb (r.owner k) other e)) in
      let stays : (k : ℕ) → r.owner k ≢ other → owner' k ≡ r.owner k = (λ k ne. ap (λ (b : Bool). cond b id (r.owner k)) (ne_eqb (r.owner k) other ne)) in
      let fit : ℕ → View → Type 0 = Fit (get_or s.words 0 0) s.homes r.note owner' r.holder r.count in
      let holds_turn : (v : View) → get_elem? s.views r.holder ≡ some v → v.inside ≡ true → (r.holder ≢ id) × (r.holder ≢ other) = (λ v e inn. (
        (λ h. false≢true (ap (λ (z : View). z.inside) (one_of s.views id mine v at (subst (λ (z : ℕ). get_elem? s.views z ≡ some v) h e)) ∙ inn)),
        (λ h. false≢true (ap (λ (z : View). z.inside) (one_of s.views other theirs v there (subst (λ (z : ℕ). get_elem? s.views z ≡ some v) h e)) ∙ inn)),
      )) in record {
        note = r.note;
        owner = owner';
        holder = r.holder;
        count = r.count;
        wide = r.wide;
        deep = r.deep;
        bit = r.bit;
        room = r.room;
        shelf = r.shelf;
        free = r.free;
        taken = λ z. let t = r.taken z in let p = holds_turn t.0 t.1 t.2 in
            (t.0, set_else (set s.views id joined) other r.holder spent p.1 ∙ (set_else s.views id r.holder joined p.0 ∙ t.1), t.2);
        each_view = views_stay fit (set s.views id joined) other spent
            record {
              each_once = λ i l d q p. absurd (some-ne-none d (sym p));
              each_claim = λ i d q. absurd (some-ne-none d (sym q));
              turn = λ inn. absurd (false≢true inn);
              out = λ inn _. absurd (false≢true inn);
              making = λ z. absurd (omega arith);
            }
            (λ j d ne e. views_stay (λ i v. i ≢ other → fit i v) s.views id joined
            (λ _. record {
              each_once = once_in_both others (a ∷ firsts) g.each_once f.each_once (λ i l q d p p' e. apart (sym (g.each_claim i q p).1 ∙ (ap r.owner e ∙ (f.each_claim l d p').1)));
              each_claim = λ i q p. ⊎_elim
                  (λ (h : (i' : ℕ) × (get_elem? others i' ≡ some q)). let t = g.each_claim h.0 q h.1 in (t.0, moves q.number t.1, t.2, in_step))
                  (λ (h : (i' : ℕ) × (get_elem? (a ∷ firsts) i' ≡ some q)). let t = f.each_claim h.0 q h.1 in (t.0, stays q.number (λ h'. apart (sym h' ∙ t.1)) ∙ t.1, t.2, in_step))
                  (in_append others (a ∷ firsts) q i p);
              turn = λ inn. absurd (false≢true inn);
              out = λ inn _. absurd (false≢true inn);
              making = λ z. absurd (omega arith);
            })
            (λ i v _ ate ne'. let h = r.each_view i v ate in record {
              each_once = h.each_once;
              each_claim = λ k q p. let t = h.each_claim k q p in (t.0, stays q.number (λ e'. ne' (sym t.1 ∙ e')) ∙ t.1, t.2, t.3);
              turn = h.turn;
              out = h.out;
              making = h.making;
            }) j d e ne);
      }

  pub joins_seat : (n : ℕ) (a : Claim) (firsts : List Claim) (m : ℕ) (others : List Claim) (id other : ℕ) (v w : View) → v ≡ keeper n (a ∷ firsts) → w ≡ keeper m others
      → Joins Rule id v other w (both v w) spent
  joins_seat n a firsts m others id other v w e e' =
      subst (λ (z : View × View). Joins Rule id z.0 other z.1 (both z.0 z.1) spent) (λ i. (sym e i, sym e' i)) (joining n a firsts m others id other)

  -- the rule holds as the lock is made
  pub opens : (x : T) (ground : List ℕ) → 0 < seats → ((k : ℕ) → k < seats → tell x k ≡ ground) → Rule (opening (1 ∷ []) (Some x ∷ []) (maker seats (claim 0 ground) 1 (notes_of (λ _. ground) seats)))
  opens x ground some_seat same = let start : ℕ = 0 in let v : View = maker seats (claim 0 ground) 1 (notes_of (λ _. ground) seats) in record {
    note = λ _. ground;
    owner = λ _. 0;
    holder = 0;
    count = 1;
    wide = refl;
    deep = refl;
    bit = omega arith;
    room = omega arith;
    shelf = λ y e k l. subst (λ (z : T). tell z k ≡ ground) (same_home (some (Some x) ∷ []) x y refl e) (same k l);
    free = λ z. absurd (omega arith);
    taken = λ _. (v, refl, refl);
    each_view = λ j d e. let h = only v d j e in subst (λ (z : ℕ × View). Fit 1 (some (Some x) ∷ []) (λ _. ground) (λ _. 0) 0 1 z.0 z.1) (λ i. (sym h.0 i, h.1 i))
        record {
          each_once = alone (claim 0 ground);
          each_claim = λ i q p. subst (λ (z : Claim). (z.number < 1) × (start ≡ start) × (ground ≡ z.note) × (seats ≡ seats)) (only (claim 0 ground) q i p).1 (omega arith, refl, refl, refl);
          turn = λ _. (refl, refl, length-notes_of (λ _. ground) seats, (λ k l. note_in-notes_of (λ _. ground) seats k l), refl, (claim 0 ground, refl));
          out = λ _ z. absurd (omega arith);
          making = λ _. (refl, refl, (x, refl), (λ k l. note_in-notes_of (λ _. ground) seats k l ∙ sym (note_in-notes_of (λ _. ground) seats 0 some_seat)));
        };
  }

  -- a seat outside, which has the claim of each number, finds the value at home, with the notes of its claims
  pub closes : (n : ℕ) (claims : List Claim) (id : ℕ) (ws : List ℕ) (xs : List (Option T)) → Final (Seen Rule id (keeper n claims)) ws xs
      → ((k : ℕ) → k < seats → (i : ℕ) × ((c : Claim) × (get_elem? claims i ≡ some c) × (c.number ≡ k)))
      → (x : T) × (get_elem? xs 0 ≡ some (Some x)) × ((i : ℕ) (c : Claim) → get_elem? claims i ≡ some c → tell x c.number ≡ c.note)
  closes n claims id ws xs end all =
      let s = end.0 in let r : Rule s = end.1.0 in let at = end.1.1 in let v : View = keeper n claims in let f = r.each_view id v at in let word : ℕ = get_or s.words 0 0 in
      let found : word ≡ 0 → (x : T) × (get_elem? xs 0 ≡ some (Some x)) × ((i : ℕ) (c : Claim) → get_elem? claims i ≡ some c → tell x c.number ≡ c.note)
      = (λ z. let h = r.free z in (h.0, end.4 0 (Some h.0) h.1, (λ i c e. let t = f.each_claim i c e in r.shelf h.0 h.1 c.number (let l = t.0 in let le = r.room in omega arith) ∙ t.2))) in
      dite (ℕ_discrete word 0) found
      (λ miss. let small = r.bit in let t = r.taken (omega arith) in let g = r.each_view r.holder t.0 t.1 in let tu = g.turn t.2 in let q = tu.5 in let cl = g.each_claim 0 q.0 q.1 in
      let h = all q.0.number (let l = cl.0 in let le = r.room in omega arith) in let own = f.each_claim h.0 h.1.0 h.1.1 in
      let same : r.holder ≡ id = moved r.owner q.0.number h.1.0.number r.holder id cl.1 h.1.2 own.1 in
      absurd (false≢true (ap (λ (z : View). z.inside) (one_of s.views id v t.0 at (subst (λ (z : ℕ). get_elem? s.views z ≡ some t.0) same t.1)) ∙ t.2)))

-- Supported values of a fragment are the local solution of a simulation.
use Rattle.std.proofs.Common.{◌≡◌, ℕ, zero, suc, ◌<◌, inl, inr, Bool, true, false, ◌==◌, ◌&&◌, not, refl, sym, ◌∙◌, ap, subst, arith, List, [], ◌∷◌, ◌++◌, length, take, drop, map, slice_index, slice_index_or, Contains, IsTrue}
use Rattle.std.specs.List.{list_any, list_all}
use Rattle.std.proofs.lemmas.Bool.{and_parts, and_from, or_cases, or_left, or_right, eqb-true, eq-eqb, cases_Bool, both_ways, not-true, not_from_false}
use Rattle.std.proofs.lemmas.List.{length-map, length-append, get_or-map}
use Rattle.std.proofs.lemmas.List.Elements.{length_all_zip, All-contains}
use Rattle.value_order.specs.declared.order.Order.TheVariants.{Mask}
use Rattle.value_order.specs.declared.TheConstants.{NOTHING}
use Rattle.value_order.specs.Order.{Below}
use Rattle.value_order.proofs.Orders.{Below-refl, Below-trans, meet-below_left}
use Rattle.graph_core.specs.declared.fragment.Reading.{Reading}
use Rattle.graph_core.specs.declared.pattern.PatternLink.{PatternLink}
use Rattle.graph_core.specs.declared.pattern.PatternNode.{PatternNode}
use Rattle.graph_core.specs.declared.query.Query.{Query}
use Rattle.graph_core.specs.declared.query.Query.TheVariants.{Sim}
use Rattle.graph_core.specs.declared.settings.Settings.{Settings}
use Rattle.graph_core.specs.declared.job.Job.{Job}
use Rattle.graph_core.specs.Digraph.{Digraph}
use Rattle.graph_core.specs.PatternGraph.{PatternGraph}
use Rattle.graph_core.specs.Graphs.{label_at, IsJob}
use Rattle.graph_core.specs.Parts.{FragmentLists, place_count}
use Rattle.graph_core.specs.Queries.{Read, reads_of, has_bit, mask_of, has_node, link_is_met, equations_of}
use Rattle.graph_core.specs.Fragments.{owned_of, mirrors_of, places_of, fragment_of, StandsAt}
use Rattle.graph_core.specs.Theorems.{ReadersAreTurnedReadings}
use Rattle.graph_core.proofs.Lists.{contains_map, any_from, any_gives, all_from, all_gives}
use Rattle.graph_core.proofs.Masks.{mask_has, mask_gives, mask_is_value}
use Rattle.graph_core.proofs.Cutting.{stands_left}
use Rattle.graph_core.proofs.Turned.{readers_turned}
use Rattle.pie_core.specs.Locals.{LocalValues, FitsPart}
use Rattle.pie_core.specs.Solutions.{value_at, AllBelow, OwnEquationsHold, IsLocalSolution, IsReadyFor, starts_of, met, lowered, mirrors_lowered}
use Rattle.pie_core.proofs.Lists.{drop-same}
use Rattle.pie_core.proofs.Starting.{few-places}
use Rattle.pie_core.proofs.Bridge.{Reads, in_readers_row, in_readings_row, from_readings_row, value-at_place, read_stands}
use Rattle.pie_sim.specs.SimJobs.{HasBit, targets_from, AreTargets, SimValues, nodes_asked, IsSimJob}
use Rattle.pie_sim.specs.Falling.{is_read, AreSupported, IsSettled, ReadersAreListed, LieBelow, HasFallen}
use Rattle.pie_sim.specs.Counting.{AreOfNodes}
use Rattle.pie_sim.proofs.Bits.{zero-none, at_bit, from_bit, below-bit, bit-below}
use Rattle.pie_sim.proofs.Targets.{leads}
use Rattle.pie_sim.proofs.Mirrors.{lowered-length}
use Rattle.pie_sim.proofs.Fallen.{of_nodes-below}

-- ---- lists place by place

pub below-at : (xs ys : List ℕ) → AllBelow Mask xs ys → LieBelow xs ys
below-at [] [] h q = refl
below-at [] (y ∷ ys) h q = absurd h
below-at (x ∷ xs) [] h q = absurd h
below-at (x ∷ xs) (y ∷ ys) h zero = h.0
below-at (x ∷ xs) (y ∷ ys) h (suc q) = below-at xs ys h.1 q

pub below-from : (xs ys : List ℕ) → length xs ≡ length ys → LieBelow xs ys → AllBelow Mask xs ys
below-from [] [] e h = tt
below-from [] (y ∷ ys) e h = absurd (omega (arith, e))
below-from (x ∷ xs) [] e h = absurd (omega (arith, e))
below-from (x ∷ xs) (y ∷ ys) e h = (h 0, below-from xs ys (omega (arith, e)) (λ q. h (suc q)))

-- ---- a job that asks for a simulation

module _ (g : Digraph) (settings : Settings) (pattern : PatternGraph) (targets : List ℕ) (are : AreTargets targets pattern.links) where
  abbrev job : Job
  job = record { graph = g; query = Sim pattern; settings = settings }

  module _ (is_job : IsJob job) (i : ℕ) (in_job : i < settings.fragments) where
    abbrev whole : FragmentLists
    whole = fragment_of job i

    places-length : length (places_of job i) ≡ place_count whole
    places-length = length-append (owned_of job i) (mirrors_of job i)

    abbrev row_of : ℕ → List Reading
    row_of p = slice_index_or whole.readings p []

    -- what a vertex reads has a bit where a row of readings has it
    some_read : (xs : List ℕ) (p v m : ℕ) → StandsAt (owned_of job i) p v → IsTrue (is_read (row_of p) xs m) → list_any (λ (r : Read). has_bit (value_at (places_of job i) xs r.vertex) m) (reads_of g (Sim pattern) v) ≡ true
    some_read xs p v m here t =
        let f = any_gives (λ (r : Reading). has_bit (slice_index xs r.place) m) (row_of p) t in
        let e : Reading = f.0 in
        let reads : Reads job i is_job in_job p e.place e.weight = from_readings_row job i is_job in_job p e here.0 f.1 in
        let r : Read = reads.read in
        let same = value-at_place job i is_job in_job xs e.place r.vertex reads.at in
        let vertex : reads.vertex ≡ v = sym reads.stands.1 ∙ here.1 in
        any_from (λ (r : Read). has_bit (value_at (places_of job i) xs r.vertex) m) (reads_of g (Sim pattern) v) r
        (subst (λ u. Contains (reads_of g (Sim pattern) u) r) vertex reads.is_read) (subst (λ n. HasBit n m) (sym same) f.2)

    read_some : (xs : List ℕ) (p v m : ℕ) → StandsAt (owned_of job i) p v → list_any (λ (r : Read). has_bit (value_at (places_of job i) xs r.vertex) m) (reads_of g (Sim pattern) v) ≡ true → IsTrue (is_read (row_of p) xs m)
    read_some xs p v m here t =
        let f = any_gives (λ (r : Read). has_bit (value_at (places_of job i) xs r.vertex) m) (reads_of g (Sim pattern) v) t in
        let r : Read = f.0 in
        let s = read_stands job i is_job in_job p v r here f.1 in
        let read : Reads job i is_job in_job p s.0 r.weight = record { vertex = v; read = r; stands = here; is_read = f.1; at = s.1; weighs = refl } in
        any_from (λ (r : Reading). has_bit (slice_index xs r.place) m) (row_of p) (record { place = s.0; weight = r.weight })
        (in_readings_row job i is_job in_job p s.0 r.weight read) (subst (λ n. HasBit n m) (value-at_place job i is_job in_job xs s.0 r.vertex s.1) f.2)

    -- supported values that lie below the starts lie below their own equations
    pub supported-hold : (xs : List ℕ) → AllBelow Mask xs (starts_of (equations_of job) (places_of job i)) → AreSupported targets whole xs → OwnEquationsHold (equations_of job) (owned_of job i) (mirrors_of job i) xs
    supported-hold xs low supported p l =
        let v = slice_index (owned_of job i) p in
        let here : StandsAt (owned_of job i) p v = (l, refl) in
        let there : StandsAt (places_of job i) p v = stands_left (owned_of job i) (mirrors_of job i) p v here in
        let x = value_at (places_of job i) xs in
        let reads : List Read = reads_of g (Sim pattern) v in
        let start = get_or-map (equations_of job).start (places_of job i) p 0 0 there.0 ∙ ap (equations_of job).start there.1 in
        let under : Below Mask (slice_index xs p) (mask_of (λ k. has_node pattern k (label_at g v))) = subst (λ n. Below Mask (slice_index xs p) n) start (below-at xs (starts_of (equations_of job) (places_of job i)) low p) in
        let phi = mask_of (λ k. has_node pattern k (label_at g v) && list_all (link_is_met k reads x) pattern.links) in
        bit-below (slice_index xs p) phi (λ k b.
        let at = below-bit (slice_index xs p) (mask_of (λ k. has_node pattern k (label_at g v))) k under b in
        let node = mask_gives (λ k. has_node pattern k (label_at g v)) k (at_bit (mask_of (λ k. has_node pattern k (label_at g v))) k at) in
        from_bit phi k (mask_has (λ k. has_node pattern k (label_at g v) && list_all (link_is_met k reads x) pattern.links) k node.0
        (and_from (has_node pattern k (label_at g v)) (list_all (link_is_met k reads x) pattern.links) node.1
        (all_from (link_is_met k reads x) pattern.links (λ link c. elim (cases_Bool (link.from == k)) [
          | inr n ↦ or_left (not (link.from == k)) (list_any (λ (r : Read). has_bit (x r.vertex) link.to) reads) (not_from_false (link.from == k) n)
          | inl t ↦
              let small = (All-contains (λ (l : PatternLink). (l.from < 64) × (l.to < 64)) pattern.links link is_job.query.links c).1 in
              let target : HasBit (slice_index targets k) link.to =
              subst (λ n. HasBit n link.to) (sym (are.each k node.0)) (from_bit (targets_from pattern.links k) link.to
              (mask_has (λ m. list_any (leads k m) pattern.links) link.to small (any_from (leads k link.to) pattern.links link c (and_from (link.from == k) (link.to == link.to) t (eq-eqb link.to link.to refl))))) in
              or_right (not (link.from == k)) (list_any (λ (r : Read). has_bit (x r.vertex) link.to) reads) (some_read xs p v link.to here (supported p l k link.to b target))
        ])))))

    -- values that lie below their own equations are supported
    pub hold-supported : (xs : List ℕ) → OwnEquationsHold (equations_of job) (owned_of job i) (mirrors_of job i) xs → AreSupported targets whole xs
    hold-supported xs hold p l k m b target =
        let v = slice_index (owned_of job i) p in
        let x = value_at (places_of job i) xs in
        let reads : List Read = reads_of g (Sim pattern) v in
        let test : ℕ → Bool = λ k. has_node pattern k (label_at g v) && list_all (link_is_met k reads x) pattern.links in
        let at = mask_gives test k (at_bit (mask_of test) k (below-bit (slice_index xs p) (mask_of test) k (hold p l) b)) in
        let met = (and_parts (has_node pattern k (label_at g v)) (list_all (link_is_met k reads x) pattern.links) at.1).1 in
        let led = mask_gives (λ m. list_any (leads k m) pattern.links) m (at_bit (targets_from pattern.links k) m (subst (λ n. HasBit n m) (are.each k at.0) target)) in
        let f = any_gives (leads k m) pattern.links led.1 in
        let link : PatternLink = f.0 in
        let ends = and_parts (link.from == k) (link.to == m) f.2 in
        elim (or_cases (not (link.from == k)) (list_any (λ (r : Read). has_bit (x r.vertex) link.to) reads) (all_gives (link_is_met k reads x) pattern.links met link f.1)) [
          | inl n ↦ absurd (both_ways (link.from == k) (not-true (link.from == k) n) ends.0)
          | inr a ↦ read_some xs p v m (l, refl) (subst (λ n. list_any (λ (r : Read). has_bit (x r.vertex) n) reads ≡ true) (eqb-true link.to m ends.1) a)
        ]

    -- so values that fell as far as they had to are the local solution
    pub fallen-solution : (old new : LocalValues) → AllBelow Mask old.values (starts_of (equations_of job) (places_of job i)) → HasFallen targets whole old new → AreSupported targets whole new.values
        → IsLocalSolution (equations_of job) (owned_of job i) (mirrors_of job i) old.values new.values
    fallen-solution old new low fell supported =
        let starts = starts_of (equations_of job) (places_of job i) in
        let n = length_all_zip (Below Mask) old.values starts low in
        let e = fell.places in
        let under : AllBelow Mask new.values starts =
        below-from new.values starts (omega (arith, e, n)) (λ q. Below-trans Mask (slice_index new.values q) (slice_index old.values q) (slice_index starts q) (fell.below q) (below-at old.values starts low q)) in
        record {
          candidate = record {
            below = below-from new.values old.values e fell.below;
            mirrors_stay = drop-same (length (owned_of job i)) new.values old.values e fell.mirrors;
            equations = supported-hold new.values under supported;
          };
          greatest = λ zs c.
              let m = length_all_zip (Below Mask) zs old.values c.below in
              below-from zs new.values (omega (arith, m, e)) (fell.above zs (hold-supported zs c.equations) (below-at zs old.values c.below));
        }

    pub fragment-listed : ReadersAreListed whole
    fragment-listed p r l c = in_readers_row job i is_job in_job p r.place r.weight (from_readings_row job i is_job in_job p r l c)

met-below : (xs hand : List ℕ) → LieBelow (met Mask xs hand) xs
met-below [] hand q = refl
met-below (x ∷ xs) [] q = Below-refl Mask (slice_index (x ∷ xs) q)
met-below (x ∷ xs) (a ∷ hand) zero = meet-below_left Mask x a
met-below (x ∷ xs) (a ∷ hand) (suc q) = met-below xs hand q

lowered-below : (n : ℕ) (xs hand : List ℕ) → LieBelow (take n xs ++ met Mask (drop n xs) hand) xs
lowered-below zero xs hand q = met-below xs hand q
lowered-below (suc n) [] hand q = refl
lowered-below (suc n) (x ∷ xs) hand zero = Below-refl Mask x
lowered-below (suc n) (x ∷ xs) hand (suc q) = lowered-below n xs hand q

-- ---- what evaluation is given and leaves

-- a start is a value
start_is_value : (g : Digraph) (pattern : PatternGraph) (places : List ℕ) (q : ℕ) → Below Mask (slice_index (map (λ v. mask_of (λ k. has_node pattern k (label_at g v))) places) q) NOTHING
start_is_value g pattern [] q = refl
start_is_value g pattern (v ∷ vs) (suc q) = start_is_value g pattern vs q
start_is_value g pattern (v ∷ vs) zero = mask_is_value (λ k. has_node pattern k (label_at g v))

-- and has the bits of nodes alone
node_of_start : (g : Digraph) (pattern : PatternGraph) (places : List ℕ) (q m : ℕ) → HasBit (slice_index (map (λ v. mask_of (λ k. has_node pattern k (label_at g v))) places) q) m → Contains (map (λ (n : PatternNode). n.number) pattern.nodes) m
node_of_start g pattern [] q m b = absurd (let x : false ≡ true = sym (zero-none m) ∙ b in cc)
node_of_start g pattern (v ∷ vs) (suc q) m b = node_of_start g pattern vs q m b
node_of_start g pattern (v ∷ vs) zero m b =
    let mask = mask_of (λ k. has_node pattern k (label_at g v)) in
    let node = mask_gives (λ k. has_node pattern k (label_at g v)) m (at_bit mask m b) in
    let f = any_gives (λ (n : PatternNode). (n.number == m) && (n.label == label_at g v)) pattern.nodes node.1 in
    let n : PatternNode = f.0 in
    let number = eqb-true n.number m (and_parts (n.number == m) (n.label == label_at g v) f.2).0 in
    subst (λ k. Contains (map (λ (n : PatternNode). n.number) pattern.nodes) k) number (contains_map (λ (n : PatternNode). n.number) pattern.nodes n f.1)

abbrev asking : Job → Query → Job
asking job q = record { graph = job.graph; query = q; settings = job.settings }

module _ (sim : SimValues) (job : Job) (is_for : IsSimJob sim job) (part : FragmentLists) (local : LocalValues) (n : ℕ) (ready : IsReadyFor (equations_of job) job part local n) where
  pub ready-fits : FitsPart part local
  ready-fits =
      let values = length_all_zip (Below (equations_of job).order) local.values (starts_of (equations_of job) (part.owned ++ part.mirrors)) ready.below_start in
      let starts = length-map (part.owned ++ part.mirrors) (equations_of job).start in
      let places = length-append part.owned part.mirrors in
      record {
        few = few-places job is_for.is_job part ready.is_part;
        places = omega (arith, values, starts, places);
        owned = ready.owned;
      }

  pub ready-listed : ReadersAreListed part
  ready-listed =
      let P : Query → Type 0 = λ q. IsJob (asking job q) → part ≡ fragment_of (asking job q) part.number → ReadersAreListed part in
      let at : P (Sim is_for.pattern) = λ is_job is_part. subst (λ p. ReadersAreListed p) (sym is_part) (fragment-listed job.graph job.settings is_for.pattern sim.targets is_for.is_sim.targets is_job part.number ready.number) in
      subst P (sym is_for.asks) at is_for.is_job ready.is_part

  pub ready-turned : ReadersAreTurnedReadings part
  ready-turned = subst (λ p. ReadersAreTurnedReadings p) (sym ready.is_part) (readers_turned job part.number is_for.is_job ready.number)

  -- the bits of the values are those of nodes
  pub ready-of_nodes : AreOfNodes sim.nodes local.values
  ready-of_nodes q m =
      let pattern = is_for.pattern in
      let places = part.owned ++ part.mirrors in
      let P : Query → Type 0 = λ query. AllBelow (equations_of (asking job query)).order local.values (starts_of (equations_of (asking job query)) places) → HasBit (slice_index local.values q) m → Contains (map (λ (n : PatternNode). n.number) pattern.nodes) m in
      let at : P (Sim pattern) = λ low b.
      let e = equations_of (asking job (Sim pattern)) in
      let starts = starts_of e places in
      node_of_start job.graph pattern places q m (below-bit (slice_index local.values q) (slice_index starts q) m (below-at local.values starts low q) b) in
      λ b. subst (λ ns. Contains ns m) (sym is_for.is_sim.nodes) (subst P (sym is_for.asks) at ready.below_start b)

  -- and are values
  pub ready-values : (q : ℕ) → Below Mask (slice_index local.values q) NOTHING
  ready-values q =
      let pattern = is_for.pattern in
      let places = part.owned ++ part.mirrors in
      let P : Query → Type 0 = λ query. AllBelow (equations_of (asking job query)).order local.values (starts_of (equations_of (asking job query)) places) → Below Mask (slice_index local.values q) NOTHING in
      let at : P (Sim pattern) = λ low.
      let starts = starts_of (equations_of (asking job (Sim pattern))) places in
      Below-trans Mask (slice_index local.values q) (slice_index starts q) NOTHING (below-at local.values starts low q) (start_is_value job.graph pattern places q) in
      subst P (sym is_for.asks) at ready.below_start

  pub ready-width : nodes_asked job.query ≡ length sim.nodes
  ready-width = ap nodes_asked is_for.asks ∙ sym (ap length is_for.is_sim.nodes ∙ length-map is_for.pattern.nodes (λ (n : PatternNode). n.number))

  pub low-start : (xs : List ℕ) → length xs ≡ length local.values → LieBelow xs local.values → AllBelow (equations_of job).order xs (starts_of (equations_of job) (part.owned ++ part.mirrors))
  low-start xs len below =
      let P : Query → Type 0 = λ q. AllBelow (equations_of (asking job q)).order local.values (starts_of (equations_of (asking job q)) (part.owned ++ part.mirrors)) → AllBelow (equations_of (asking job q)).order xs (starts_of (equations_of (asking job q)) (part.owned ++ part.mirrors)) in
      let at : P (Sim is_for.pattern) = λ low.
      let starts = starts_of (equations_of (asking job (Sim is_for.pattern))) (part.owned ++ part.mirrors) in
      let k = length_all_zip (Below Mask) local.values starts low in
      below-from xs starts (omega (arith, len, k)) (λ q. Below-trans Mask (slice_index xs q) (slice_index local.values q) (slice_index starts q) (below q) (below-at local.values starts low q)) in
      subst P (sym is_for.asks) at ready.below_start

  -- and so are those of values with lower mirrors
  pub mirrors-of_nodes : (mid : LocalValues) (hand : List ℕ) → mid.values ≡ mirrors_lowered Mask part.owned local.values hand → AreOfNodes sim.nodes mid.values
  mirrors-of_nodes mid hand values = of_nodes-below sim.nodes local.values mid.values (subst (λ xs. LieBelow xs local.values) (sym values) (lowered-below (length part.owned) local.values hand)) ready-of_nodes

  pub part-solution : (old new : LocalValues) → AllBelow (equations_of job).order old.values (starts_of (equations_of job) (part.owned ++ part.mirrors)) → HasFallen sim.targets part old new → AreSupported sim.targets part new.values
      → IsLocalSolution (equations_of job) part.owned part.mirrors old.values new.values
  part-solution old new =
      let P : Query → Type 0 = λ q. IsJob (asking job q) → part ≡ fragment_of (asking job q) part.number → AllBelow (equations_of (asking job q)).order old.values (starts_of (equations_of (asking job q)) (part.owned ++ part.mirrors))
      → HasFallen sim.targets part old new → AreSupported sim.targets part new.values → IsLocalSolution (equations_of (asking job q)) part.owned part.mirrors old.values new.values in
      let at : P (Sim is_for.pattern) = λ is_job is_part.
      let e = equations_of (asking job (Sim is_for.pattern)) in
      let Q : FragmentLists → Type 0 = λ p. AllBelow Mask old.values (starts_of e (p.owned ++ p.mirrors)) → HasFallen sim.targets p old new → AreSupported sim.targets p new.values → IsLocalSolution e p.owned p.mirrors old.values new.values in
      subst Q (sym is_part) (fallen-solution job.graph job.settings is_for.pattern sim.targets is_for.is_sim.targets is_job part.number ready.number old new) in
      subst P (sym is_for.asks) at is_for.is_job ready.is_part

  -- what evaluation leaves
  pub peval-solution : (new : LocalValues) → HasFallen sim.targets part local new → AreSupported sim.targets part new.values → IsLocalSolution (equations_of job) part.owned part.mirrors local.values new.values
  peval-solution new fell supported = part-solution local new ready.below_start fell supported

  -- what another evaluation begins with
  pub again-settled : OwnEquationsHold (equations_of job) part.owned part.mirrors local.values → IsSettled sim.targets part local
  again-settled hold =
      let P : Query → Type 0 = λ q. IsJob (asking job q) → part ≡ fragment_of (asking job q) part.number → OwnEquationsHold (equations_of (asking job q)) part.owned part.mirrors local.values → AreSupported sim.targets part local.values in
      let at : P (Sim is_for.pattern) = λ is_job is_part.
      let e = equations_of (asking job (Sim is_for.pattern)) in
      let Q : FragmentLists → Type 0 = λ p. OwnEquationsHold e p.owned p.mirrors local.values → AreSupported sim.targets p local.values in
      subst Q (sym is_part) (hold-supported job.graph job.settings is_for.pattern sim.targets is_for.is_sim.targets is_job part.number ready.number local.values) in
      λ p l. inr (subst P (sym is_for.asks) at is_for.is_job ready.is_part hold p l)

  -- and what it leaves
  pub inceval-solution : (mid new : LocalValues) (hand : List ℕ) → mid.values ≡ mirrors_lowered Mask part.owned local.values hand → HasFallen sim.targets part mid new → AreSupported sim.targets part new.values
      → IsLocalSolution (equations_of job) part.owned part.mirrors (lowered (equations_of job) part.owned local.values hand) new.values
  inceval-solution mid new hand values fell supported =
      let n = length part.owned in
      let met_values = mirrors_lowered Mask part.owned local.values hand in
      let low : LieBelow mid.values local.values = subst (λ xs. LieBelow xs local.values) (sym values) (lowered-below n local.values hand) in
      let len = ap length values ∙ lowered-length n local.values hand in
      let solution = part-solution mid new (low-start mid.values len low) fell supported in
      let same : lowered (equations_of job) part.owned local.values hand ≡ met_values = ap (λ q. lowered (equations_of (asking job q)) part.owned local.values hand) is_for.asks in
      subst (λ xs. IsLocalSolution (equations_of job) part.owned part.mirrors xs new.values) (values ∙ sym same) solution

-- What a Give leaves at the desks.
use Rattle.std.specs.Prelude.{◌≡◌, ◌≢◌, ℕ, ◌+◌, ◌&&◌, if◌then◌else◌, ◌<◌, ◌^◌, ◌-◌, Bool, true, false, not, ◌==◌, ◌||◌, IsTrue, List, [], ◌∷◌, map, filter, length, All, Some, slice_get, slice_index, slice_index_or}
use Rattle.value_order.specs.declared.TheConstants.{NOTHING}
use Rattle.graph_core.specs.declared.fragment.Route.{Route}
use Rattle.message_buffer.specs.BufferValues.{BufferValues}
use Rattle.message_buffer.specs.Buffers.{with_post, batches_in}
use Rattle.base_machine.specs.Machine.{Post, posts_to, values_for, is_empty}
use Rattle.token_cut.specs.Parts.{PartValues}
use Rattle.token_cut.specs.CutValues.{CutValues}
use Rattle.token_cut.specs.Recording.{is_marked}
use Rattle.token_cut.specs.Late.{lowered_by}
use Rattle.delay_stretch.specs.Arrivals.{IsNotBelowLast}
use Rattle.hub_engine.specs.declared.desk.Desk.{Desk}
use Rattle.hub_engine.specs.declared.sender.Sender.{Sender}
use Rattle.hub_engine.specs.Desks.{with_arrival}

-- all of these posts in the last batch of a class
abbrev pub with_posts : Bool → List Post → BufferValues → BufferValues
with_posts tagged [] b = b
with_posts tagged (p ∷ posts) b = with_posts tagged posts (with_post tagged p.mirror p.value b)

-- posts in the last batch of a desk
abbrev pub with_more : Bool → List Post → Desk → Desk
with_more tagged posts d = record { seat = d.seat; delay = d.delay; round = d.round; pulse = d.pulse; buffer = with_posts tagged posts d.buffer; begun = d.begun }

-- a batch of these posts; no posts are no batch
abbrev pub with_batch_of : Sender → List Post → Desk → Desk
with_batch_of sender [] d = d
with_batch_of sender (p ∷ posts) d = with_more sender.tagged (p ∷ posts) (with_arrival sender d)

-- The desks, the first of which has this number, after the owned values that changed from old to new were sent along their routes.
abbrev pub posted_from : Sender → ℕ → List ℕ → List ℕ → List (List Route) → List Desk → List Desk
posted_from sender k old new routes [] = []
posted_from sender k old new routes (d ∷ desks) = with_batch_of sender (posts_to k old new routes) d ∷ posted_from sender (k + 1) old new routes desks

abbrev pub posted : Sender → List ℕ → List ℕ → List (List Route) → List Desk → List Desk
posted sender old new routes desks = posted_from sender 0 old new routes desks

-- how many mirrors each desk has
abbrev pub mirror_counts : List Desk → List ℕ
mirror_counts desks = map (λ d. length d.buffer.plain) desks

-- each route leads to a mirror of one of the desks
abbrev pub LeadToDesks : List (List Route) → List Desk → Type 0
LeadToDesks routes desks = All (λ row. All (λ r. r.mirror < slice_index (mirror_counts desks) r.fragment) row) routes

-- a value that changed isn't NOTHING
abbrev pub ChangesAreValues : List ℕ → List ℕ → Type 0
ChangesAreValues old new = (p : ℕ) → p < length old → slice_index old p ≢ slice_index new p → slice_index new p ≢ NOTHING

-- A desk can get a batch of the Give at this place: it can count one batch more, and nothing arrived later.
abbrev pub CanReceive : ℕ → Desk → Type 0
CanReceive place d = (batches_in d.buffer < 2 ^ 64 - 1) × IsNotBelowLast place d.pulse

abbrev pub AllCanReceive : ℕ → List Desk → Type 0
AllCanReceive place desks = All (CanReceive place) desks

-- ---- while the posts are sent

-- posts for a worker, in the batch that was begun for it, or in a new one
abbrev pub with_mail : Sender → Bool → List Post → Desk → Desk
with_mail sender true posts d = with_more sender.tagged posts d
with_mail sender false posts d = with_batch_of sender posts d

-- the desks, the first of which has this number, after each got its posts, where a batch was begun for some
abbrev pub mailed_from : Sender → ℕ → List Bool → (ℕ → List Post) → List Desk → List Desk
mailed_from sender k begun posts [] = []
mailed_from sender k begun posts (d ∷ desks) = with_mail sender (slice_index_or begun k false) (posts k) d ∷ mailed_from sender (k + 1) begun posts desks

abbrev pub mailed : Sender → List Bool → (ℕ → List Post) → List Desk → List Desk
mailed sender begun posts desks = mailed_from sender 0 begun posts desks

-- a batch was begun for those for whom one was begun before, and for those that got posts since
abbrev pub AreBegun : List Bool → (ℕ → List Post) → List Bool → Type 0
AreBegun before posts begun = (k : ℕ) → k < 64 → slice_index_or begun k false ≡ (slice_index_or before k false || not (is_empty (posts k)))

-- what a value posts to worker k along a row of routes
abbrev pub posts_along : ℕ → ℕ → List Route → List Post
posts_along k value row = map (λ t. record { mirror = t.mirror; value = value }) (filter (λ t. t.fragment == k) row)

-- a desk for which no batch was begun can get one
abbrev pub CanBegin : ℕ → List Bool → List Desk → Type 0
CanBegin place begun desks = (k : ℕ) (d : Desk) → slice_get desks k ≡ Some d → slice_index_or begun k false ≡ false → CanReceive place d

-- ---- late mail

-- an untagged batch to a worker that is marked in an open recording
abbrev pub is_late_at : Sender → CutValues → ℕ → Bool
is_late_at sender cut k = cut.recording && is_marked k cut && not sender.tagged

-- the values of the posts of worker k for mirror m, where its batch is late
abbrev pub late_posts : Sender → CutValues → (ℕ → List Post) → ℕ → ℕ → List ℕ
late_posts sender cut posts k m = if is_late_at sender cut k then values_for m (posts k) else []

-- the recording after each worker got its posts
abbrev pub recorded_with : Sender → (ℕ → List Post) → CutValues → CutValues
recorded_with sender posts cut = lowered_by (late_posts sender cut posts) cut

-- how much mail each recorded part has
abbrev pub mails_in : List PartValues → List ℕ
mails_in parts = map (λ part. length part.mail) parts

-- where a recording is open it has the mail of each desk
abbrev pub HasMailOf : List Desk → CutValues → Type 0
HasMailOf desks cut = IsTrue cut.recording → mails_in cut.parts ≡ mirror_counts desks

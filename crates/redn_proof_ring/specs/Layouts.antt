-- Rings of templates' segments, laid out with laps: what a compiler's places and drafts have to meet.
use Rattle.std.specs.Prelude.{◌≡◌, ℕ, ◌+◌, ◌^◌, ◌<◌, ◌≤◌, Bool, true, not, ◌&&◌, ◌||◌, List, length, slice_get, Some}
use Rattle.std.specs.List.{list_all}
use Rattle.redn_words.specs.declared.types.Region.{Region}
use Rattle.redn_words.specs.declared.types.Need.TheVariants.{LocalWrite, Atomic}
use Rattle.redn_words.specs.declared.limits.TheConstants.{RECEIVE_BASE}
use Rattle.redn_words.specs.Access.{EndsBy, grants}
use Rattle.redn_words.specs.Slots.{IsNarrow}
use Rattle.redn_segment.specs.declared.types.Site.{Site}
use Rattle.redn_segment.specs.declared.types.Site.TheVariants as site
use Rattle.redn_segment.specs.declared.types.Space.{Space}
use Rattle.redn_segment.specs.declared.types.Space.TheVariants as space
use Rattle.redn_segment.specs.declared.types.Draft.{Draft}
use Rattle.redn_segment.specs.Sites.{space_of}
use Rattle.redn_segment.specs.Building.{drafts_of}
use Rattle.redn_segment.specs.Plain.{remote_space}
use Rattle.redn_segment.specs.Primed.{writes_slot}
use Rattle.redn_segment.specs.Footprints.{both_sides}
use Rattle.redn_segment.specs.Homes.{Home, IsHome, LieApart, base_of, room_of}
use Rattle.redn_segment.specs.Orders.{is_send}
use Rattle.redn_segment.specs.Rights.{is_descriptor}
use Rattle.redn_proof_landing.specs.Requested.{SparesFixed}
use Rattle.redn_proof_landing.specs.Segments.{Lying}
use Rattle.redn_recycle.specs.Laps.{slot_of}
use Rattle.redn_recycle.specs.Lapped.{MayGoRound, segment_at, start_of, ring_of}
use Rattle.redn_proof_ring.specs.Plans.{Plan, is_ring, IsBody, IsPrivate, body_request}
use Rattle.redn_proof_ring.specs.Apart.{LeavesLaps, fills_last, written_by}

-- the segments of each ring without laps, and where the rings and all other spaces lie
pub record Layout : Type 0 where
  pub regions : List Region
  pub domain : ℕ
  pub home : Space → Home
  pub mine : Space → Bool
  pub ours : ℕ → Bool
  pub size : ℕ
  pub first_queue : ℕ
  pub rings : ℕ
  pub segments : ℕ → List (List Draft)
  pub base : ℕ → ℕ
  pub most : ℕ

abbrev pub plan_of : Layout → Plan
plan_of x =
    record {
      regions = x.regions;
      domain = x.domain;
      home = x.home;
      mine = x.mine;
      ours = x.ours;
      size = x.size;
      first_queue = x.first_queue;
      rings = x.rings;
      ring = λ r. ring_of (x.segments r) r x.domain (x.base r);
      written = λ r. written_by (x.segments r) r;
      most = x.most;
    }

-- a site that the chain names. Slots are looked at by their rings
abbrev pub is_named_in : (Space → Bool) → Site → Bool
is_named_in mine (site.Field f) = true
is_named_in mine x = mine (space_of x)

abbrev pub has_sites : (Space → Bool) → Draft → Bool
has_sites mine d = is_named_in mine d.local && (is_send d.op || is_named_in mine d.remote)

-- no draft writes a descriptor
abbrev pub leaves_descriptors : Draft → Bool
leaves_descriptors d = not (is_descriptor (remote_space d))

module _ (x : Layout) where
  -- a ring with laps
  pub record IsRingLayout (r : ℕ) : Type 0 where
    pub may : MayGoRound (x.segments r) r
    pub lie : Lying x.home x.mine r (ring_of (x.segments r) r x.domain (x.base r)).row
    pub leaves : (j : ℕ) → j < length (x.segments r) → LeavesLaps (x.segments r) r j
    pub fills : list_all (both_sides (fills_last (x.segments r) r)) (drafts_of (x.segments r)) ≡ true
    pub sites : list_all (has_sites x.mine) (drafts_of (x.segments r)) ≡ true
    pub descriptors : list_all leaves_descriptors (drafts_of (x.segments r)) ≡ true
    pub fixed : (j k : ℕ) (d : Draft) → j < length (x.segments r) → slice_get (segment_at (x.segments r) j) k ≡ Some d
        → SparesFixed (writes_slot (drafts_of (x.segments r)) (slot_of r (start_of (x.segments r) j + k))) d
    pub narrow : (j k : ℕ) (d : Draft) → j < length (x.segments r) → IsBody (plan_of x) r j k d → IsNarrow (body_request (plan_of x) r j k d)
    pub own : x.mine (space.Descriptor r) ≡ true
    pub raised : grants (x.home (space.Descriptor r)).region.rights Atomic ≡ true
    pub slots : (i : ℕ) → grants (x.home (space.Slot (slot_of r i))).region.rights Atomic ≡ true

  pub record IsLayout : Type 0 where
    pub rings_are : (r : ℕ) → is_ring (plan_of x) r ≡ true → IsRingLayout r
    pub numbered : x.first_queue + x.rings ≤ RECEIVE_BASE
    pub spaces : LieApart x.home x.mine x.size
    pub homes : (p : Space) → x.mine p ≡ true → IsHome x.home x.regions x.domain x.size p
    pub private : (p : Space) (i : ℕ) → IsPrivate (plan_of x) p → i < room_of x.home p → x.ours (base_of x.home p + i) ≡ true
    pub ends : EndsBy x.size x.regions
    pub scratch : (x.mine (space.Scratch 2) ≡ true) × (x.mine (space.Scratch 3) ≡ true)
    pub written : (grants (x.home (space.Scratch 2)).region.rights LocalWrite ≡ true) × (grants (x.home (space.Scratch 3)).region.rights LocalWrite ≡ true)
    pub few : x.most ≤ 2 ^ 62

-- Names for people: what makes labels those of an instance.
use Rattle.std.specs.Prelude.{◌≡◌, ◌≢◌, ◌<◌, ℕ, List, length, All, AllPairs}
use Rattle.vss_names.specs.Names.{IsName}
use Rattle.cell_net.specs.declared.labels.PlaceLabel.{PlaceLabel}
use Rattle.cell_net.specs.declared.labels.PlaceLabel.TheVariants.{Cut, Joint}
use Rattle.cell_net.specs.declared.labels.Labels.{Labels}
use Rattle.cell_net.specs.declared.parts.InstanceParts.{InstanceParts}

-- no two items of the list are the same
abbrev pub AllDiffer : {X : Type 0} → List X → Type 0
AllDiffer items = AllPairs (λ one later. one ≢ later) items

-- a cut is on one of so many tracks, and a joint has a name
pub record IsGoodPlace (tracks : ℕ) (place : PlaceLabel) : Type 0 where
  pub cut : (track at : ℕ) → place ≡ Cut track at → track < tracks
  pub joint : (name : List ℕ) → place ≡ Joint name → IsName name

-- labels by which each cell, place and train can be told: every text is a name, each track that they
-- number is there, and no two tracks, cells, places or trains have the same
pub record AreLabels (labels : Labels) : Type 0 where
  pub tracks_named : All IsName labels.tracks
  pub trains_named : All IsName labels.trains
  pub cell_tracks : All (λ c. c.track < length labels.tracks) labels.cells
  pub places : All (IsGoodPlace (length labels.tracks)) labels.places
  pub tracks_differ : AllDiffer labels.tracks
  pub cells_differ : AllDiffer labels.cells
  pub places_differ : AllDiffer labels.places
  pub trains_differ : AllDiffer labels.trains

-- each cell, each candidate and each train has its label
pub record AreLabelsOf (p : InstanceParts) (labels : Labels) : Type 0 where
  pub cells : length labels.cells ≡ length p.cells
  pub places : length labels.places ≡ length p.candidates
  pub trains : length labels.trains ≡ length p.trains
  pub are_labels : AreLabels labels

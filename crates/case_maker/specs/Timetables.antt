-- The timetable document of a made case.
use Rattle.std.specs.Prelude.{ℕ, ◌+◌, ◌*◌, ◌/◌, ◌%◌, List, ◌++◌, cond, nat_eq, codes, ◌||◌}
use Rattle.std.specs.List.{flat_map, range_with_len}
use Rattle.case_maker.specs.Draws.{draw}
use Rattle.case_maker.specs.Networks.{comma_unless}
use Rattle.case_maker.specs.Texts.{filled}

-- the seconds from one group of two trains to the next, and how many groups there are
abbrev pub span : ℕ → ℕ
span size = 600 + 300 * size

abbrev pub groups : ℕ → ℕ
groups size = 1 + size / 2

-- the train's length in metres, and the number of its station; draws come behind those of the line tracks
abbrev pub train_length : ℕ → ℕ → ℕ → ℕ
train_length seed size t = 300 + 100 * draw seed (size + 2 * t) 3

abbrev pub train_station : ℕ → ℕ → ℕ → ℕ
train_station seed size t = 1 + draw seed (size + 2 * t + 1) size

-- the first two trains both go east, the second a minute behind; of each later group the second goes west
unfoldable pub way : ℕ → List ℕ
way t = cond (nat_eq t 1 || nat_eq (t % 2) 0) (codes ",\"from\":\"W\",\"to\":\"E\"") (codes ",\"from\":\"E\",\"to\":\"W\"")

-- when it enters, and until when it has to arrive, in seconds
abbrev pub entry : ℕ → ℕ → ℕ
entry size t = cond (nat_eq t 1) 60 (t / 2 * span size)

abbrev pub arrival : ℕ → ℕ → ℕ
arrival size t = (t / 2 + 1) * span size

unfoldable pub train_of : ℕ → ℕ → ℕ → List ℕ
train_of seed size t = comma_unless 0 t
    ++ filled (codes "{\"name\":\"T#\"") t
    ++ filled (codes ",\"length_m\":#,\"speed_kmh\":120") (train_length seed size t)
    ++ way t
    ++ filled (codes ",\"entry_s\":#") (entry size t)
    ++ filled (codes ",\"arrive_s\":#") (arrival size t)
    ++ filled (codes ",\"stops\":[{\"station\":\"S#\",\"dwell_s\":60}]}") (train_station seed size t)

-- the document
unfoldable pub timetable_text : ℕ → ℕ → List ℕ
timetable_text seed size = filled (codes "{\"space_step_m\":500,\"time_step_s\":60,\"horizon_s\":#,\"trains\":[") (groups size * span size)
    ++ flat_map (train_of seed size) (range_with_len 0 (2 * groups size))
    ++ codes "]}\n"

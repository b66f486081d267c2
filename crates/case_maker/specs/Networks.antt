-- The network document of a made case.
use Rattle.std.specs.Prelude.{ℕ, ◌+◌, ◌-◌, ◌*◌, List, [], ◌++◌, cond, nat_eq, nat_lt, codes}
use Rattle.std.specs.List.{flat_map, range_with_len}
use Rattle.case_maker.specs.Draws.{draw}
use Rattle.case_maker.specs.Texts.{filled}

-- the nodes of a station: where its line track ends, its points, and where its two tracks begin and end
unfoldable pub nodes_of : ℕ → List ℕ
nodes_of i = filled (codes ",{\"name\":\"x#\",\"kind\":\"joint\"}") i ++ filled (codes ",{\"name\":\"p#\",\"kind\":\"point\",\"tip\":\"u#\"}") i ++ filled (codes ",{\"name\":\"a#\",\"kind\":\"joint\"},{\"name\":\"b#\",\"kind\":\"joint\"}") i ++ filled (codes ",{\"name\":\"c#\",\"kind\":\"joint\"},{\"name\":\"d#\",\"kind\":\"joint\"}") i ++ filled (codes ",{\"name\":\"q#\",\"kind\":\"point\",\"tip\":\"v#\"}") i ++ filled (codes ",{\"name\":\"y#\",\"kind\":\"joint\"}") i

unfoldable pub nodes_text : ℕ → List ℕ
nodes_text size = codes "{\"nodes\":[{\"name\":\"W\",\"kind\":\"end\"}" ++ flat_map nodes_of (range_with_len 1 size) ++ codes ",{\"name\":\"E\",\"kind\":\"end\"}]"

-- the length of the line track behind a station, in metres
abbrev pub line_length : ℕ → ℕ → ℕ
line_length seed i = 2000 + 500 * draw seed (i - 1) 3

-- the node at which it ends: the next station's first one, or the east end
unfoldable pub line_end : ℕ → ℕ → List ℕ
line_end size i = cond (nat_lt i size) (filled (codes "x#") (i + 1)) (codes "E")

-- the tracks of a station
unfoldable pub station_tracks : ℕ → List ℕ
station_tracks i = filled (codes ",{\"name\":\"u#\",\"from\":\"x#\",\"to\":\"p#\",\"length_m\":500,\"virtual\":false}") i ++ filled (codes ",{\"name\":\"e#\",\"from\":\"p#\",\"to\":\"a#\",\"length_m\":500,\"virtual\":false}") i ++ filled (codes ",{\"name\":\"f#\",\"from\":\"p#\",\"to\":\"c#\",\"length_m\":500,\"virtual\":false}") i ++ filled (codes ",{\"name\":\"m#\",\"from\":\"a#\",\"to\":\"b#\",\"length_m\":1000}") i ++ filled (codes ",{\"name\":\"n#\",\"from\":\"c#\",\"to\":\"d#\",\"length_m\":1000}") i ++ filled (codes ",{\"name\":\"g#\",\"from\":\"b#\",\"to\":\"q#\",\"length_m\":500,\"virtual\":false}") i ++ filled (codes ",{\"name\":\"h#\",\"from\":\"d#\",\"to\":\"q#\",\"length_m\":500,\"virtual\":false}") i ++ filled (codes ",{\"name\":\"v#\",\"from\":\"q#\",\"to\":\"y#\",\"length_m\":500,\"virtual\":false}") i

-- the line track behind it
unfoldable pub line_track : ℕ → ℕ → ℕ → List ℕ
line_track seed size i = filled (codes ",{\"name\":\"l#\",\"from\":\"y#\",\"to\":\"") i ++ line_end size i ++ filled (codes "\",\"length_m\":#}") (line_length seed i)

unfoldable pub tracks_of : ℕ → ℕ → ℕ → List ℕ
tracks_of seed size i = station_tracks i ++ line_track seed size i

unfoldable pub tracks_text : ℕ → ℕ → List ℕ
tracks_text seed size = codes ",\"tracks\":[{\"name\":\"l0\",\"from\":\"W\",\"to\":\"x1\",\"length_m\":2500}" ++ flat_map (tracks_of seed size) (range_with_len 1 size) ++ codes "]"

-- the sections of a station, and of the line track behind it
unfoldable pub sections_of : ℕ → List ℕ
sections_of i = filled (codes ",{\"name\":\"P#\",\"tracks\":[\"u#\",\"e#\",\"f#\"]}") i ++ filled (codes ",{\"name\":\"M#\",\"tracks\":[\"m#\"]},{\"name\":\"N#\",\"tracks\":[\"n#\"]}") i ++ filled (codes ",{\"name\":\"Q#\",\"tracks\":[\"g#\",\"h#\",\"v#\"]}") i ++ filled (codes ",{\"name\":\"L#\",\"tracks\":[\"l#\"]}") i

unfoldable pub sections_text : ℕ → List ℕ
sections_text size = codes ",\"sections\":[{\"name\":\"L0\",\"tracks\":[\"l0\"]}" ++ flat_map sections_of (range_with_len 1 size) ++ codes "]"

-- a comma, but before the first
unfoldable pub comma_unless : ℕ → ℕ → List ℕ
comma_unless first i = cond (nat_eq i first) [] (codes ",")

unfoldable pub station_of : ℕ → List ℕ
station_of i = comma_unless 1 i ++ filled (codes "{\"name\":\"S#\",\"tracks\":[\"m#\",\"n#\"]}") i

unfoldable pub stations_text : ℕ → List ℕ
stations_text size = codes ",\"stations\":[" ++ flat_map station_of (range_with_len 1 size) ++ codes "]}\n"

-- the document
abbrev pub network_text : ℕ → ℕ → List ℕ
network_text seed size = nodes_text size ++ tracks_text seed size ++ sections_text size ++ stations_text size

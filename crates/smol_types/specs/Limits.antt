-- The limits of a configuration and of its run, each with its name.
use Rattle.std.specs.Prelude.{ℕ}

-- how many species, surfaces, panels, compartments, reactions, commands and output files there may be
abbrev pub most_species : ℕ
most_species = 256

abbrev pub most_surfaces : ℕ
most_surfaces = 256

abbrev pub most_panels : ℕ
most_panels = 4096

abbrev pub most_compartments : ℕ
most_compartments = 64

abbrev pub most_reactions : ℕ
most_reactions = 1024

abbrev pub most_commands : ℕ
most_commands = 256

abbrev pub most_outputs : ℕ
most_outputs = 64

-- how many surfaces and how many points a compartment may have
abbrev pub most_bounds : ℕ
most_bounds = 16

abbrev pub most_points : ℕ
most_points = 16

-- how many products a reaction may have, and how many tests may stand before a command
abbrev pub most_products : ℕ
most_products = 16

abbrev pub most_tests : ℕ
most_tests = 8

-- how many molecules a state, a line and a command may have
abbrev pub most_molecules : ℕ
most_molecules = 1000000

-- how many steps a run may make
abbrev pub most_steps : ℕ
most_steps = 4000000

-- how far from the origin planes may stand, in ticks
abbrev pub farthest : ℕ
farthest = 2000000000000

-- the same in micros
abbrev pub farthest_micros : ℕ
farthest_micros = 1000000000000

-- how many parts of a range a command may count molecules in
abbrev pub most_bins : ℕ
most_bins = 1000

-- how long a difstep, an offset, a radius or a distance of products may be, in micros
abbrev pub longest : ℕ
longest = 1000000000

-- how large the rate of a reaction may be, in billionths per unit of time
abbrev pub fastest : ℕ
fastest = 1000000000000000

-- how large a time may be, whatever its sign, in nanos
abbrev pub latest : ℕ
latest = 1000000000000000000

-- the threshold below which every random word lies
abbrev pub certain : ℕ
certain = 4294967296

-- the serial that no molecule of a run reaches
abbrev pub last_serial : ℕ
last_serial = 1125899906842624

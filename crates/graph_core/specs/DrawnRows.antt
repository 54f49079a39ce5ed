-- Worked graphs that are drawn from a number: 1 to 5 vertices, from the numbers 5 and 7. The edges were made by a program in
-- another language.
use Rattle.std.specs.Prelude.{List, [], ◌∷◌}
use Rattle.graph_core.specs.declared.edge.Edge.{Edge}
use Rattle.graph_core.specs.Rows.{edge_of}

abbrev pub one_from_five : List Edge
one_from_five =
    edge_of 0 0 64 ∷ edge_of 0 0 285 ∷ edge_of 0 0 437 ∷ edge_of 0 0 881 ∷ []

abbrev pub one_from_seven : List Edge
one_from_seven =
    edge_of 0 0 306 ∷ edge_of 0 0 347 ∷ edge_of 0 0 517 ∷ edge_of 0 0 986 ∷ []

abbrev pub two_from_five : List Edge
two_from_five =
    edge_of 0 0 64 ∷ edge_of 0 1 532 ∷ edge_of 1 0 610 ∷ edge_of 1 0 832 ∷ edge_of 1 1 232 ∷
    edge_of 1 1 285 ∷ edge_of 1 1 437 ∷ edge_of 1 1 881 ∷ []

abbrev pub two_from_seven : List Edge
two_from_seven =
    edge_of 0 0 191 ∷ edge_of 0 0 986 ∷ edge_of 0 1 992 ∷ edge_of 1 0 306 ∷ edge_of 1 0 347 ∷
    edge_of 1 0 744 ∷ edge_of 1 1 517 ∷ edge_of 1 1 816 ∷ []

abbrev pub three_from_five : List Edge
three_from_five =
    edge_of 0 0 816 ∷ edge_of 0 0 881 ∷ edge_of 0 1 610 ∷ edge_of 0 2 232 ∷ edge_of 0 2 503 ∷
    edge_of 1 1 334 ∷ edge_of 1 2 532 ∷ edge_of 2 0 285 ∷ edge_of 2 0 832 ∷ edge_of 2 1 64 ∷
    edge_of 2 1 437 ∷ edge_of 2 1 655 ∷ []

abbrev pub three_from_seven : List Edge
three_from_seven =
    edge_of 0 0 166 ∷ edge_of 0 0 347 ∷ edge_of 0 0 652 ∷ edge_of 0 1 191 ∷ edge_of 0 1 306 ∷
    edge_of 0 1 992 ∷ edge_of 1 0 986 ∷ edge_of 1 2 273 ∷ edge_of 2 0 907 ∷ edge_of 2 1 517 ∷
    edge_of 2 1 744 ∷ edge_of 2 2 816 ∷ []

abbrev pub four_from_five : List Edge
four_from_five =
    edge_of 1 1 437 ∷ edge_of 1 3 655 ∷ edge_of 1 3 881 ∷ edge_of 2 0 64 ∷ edge_of 2 3 334 ∷
    edge_of 2 3 532 ∷ edge_of 2 3 549 ∷ edge_of 3 0 610 ∷ edge_of 3 0 832 ∷ edge_of 3 1 232 ∷
    edge_of 3 1 562 ∷ edge_of 3 1 816 ∷ edge_of 3 2 371 ∷ edge_of 3 3 285 ∷ edge_of 3 3 452 ∷
    edge_of 3 3 503 ∷ []

abbrev pub four_from_seven : List Edge
four_from_seven =
    edge_of 0 0 3 ∷ edge_of 0 0 273 ∷ edge_of 0 1 408 ∷ edge_of 0 1 907 ∷ edge_of 0 3 992 ∷
    edge_of 1 0 744 ∷ edge_of 1 1 816 ∷ edge_of 1 3 517 ∷ edge_of 2 0 191 ∷ edge_of 2 1 652 ∷
    edge_of 2 2 986 ∷ edge_of 2 3 231 ∷ edge_of 3 0 347 ∷ edge_of 3 1 106 ∷ edge_of 3 2 306 ∷
    edge_of 3 3 166 ∷ []

abbrev pub five_from_five : List Edge
five_from_five =
    edge_of 0 1 285 ∷ edge_of 0 2 634 ∷ edge_of 0 3 334 ∷ edge_of 1 0 707 ∷ edge_of 1 2 562 ∷
    edge_of 1 3 532 ∷ edge_of 1 3 655 ∷ edge_of 1 4 832 ∷ edge_of 2 1 371 ∷ edge_of 2 1 926 ∷
    edge_of 2 2 400 ∷ edge_of 2 4 503 ∷ edge_of 2 4 549 ∷ edge_of 3 0 452 ∷ edge_of 3 2 232 ∷
    edge_of 3 2 816 ∷ edge_of 3 4 64 ∷ edge_of 4 0 881 ∷ edge_of 4 1 437 ∷ edge_of 4 1 610 ∷ []

abbrev pub five_from_seven : List Edge
five_from_seven =
    edge_of 0 0 907 ∷ edge_of 0 2 231 ∷ edge_of 0 2 992 ∷ edge_of 0 3 517 ∷ edge_of 0 3 543 ∷
    edge_of 0 4 191 ∷ edge_of 1 3 106 ∷ edge_of 2 0 273 ∷ edge_of 2 0 744 ∷ edge_of 2 4 347 ∷
    edge_of 2 4 835 ∷ edge_of 3 0 3 ∷ edge_of 3 1 267 ∷ edge_of 3 1 652 ∷ edge_of 3 2 986 ∷
    edge_of 3 4 306 ∷ edge_of 3 4 408 ∷ edge_of 4 0 166 ∷ edge_of 4 3 247 ∷ edge_of 4 3 816 ∷ []

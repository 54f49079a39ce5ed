-- The parts of a fragment, as lists.
use Rattle.graph_core.specs.declared.fragment.FragmentParts.{FragmentParts}
use Rattle.graph_core.specs.Parts.{FragmentLists}

abbrev pub lists_of : FragmentParts → FragmentLists
lists_of parts =
    record {
      number = parts.number;
      owned = parts.owned.items;
      mirrors = parts.mirrors.items;
      readings = parts.readings;
      readers = parts.readers;
      routes = parts.routes;
    }

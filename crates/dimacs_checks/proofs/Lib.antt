mod Heading
mod Passing

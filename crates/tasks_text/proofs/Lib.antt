mod Lacking
mod Spelled
mod Admitted
mod Stops
